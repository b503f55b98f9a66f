-- A text is parted at its commas.
use Rattle.std.proofs.Common.{◌≡◌, ℕ, eqb, List, [], ◌∷◌, ◌++◌, refl, ap, ◌∙◌}
use Rattle.std.specs.List.{onto_first}
use Rattle.std.proofs.lemmas.Bool.{ne_eqb}
use Rattle.std.proofs.lemmas.List.Splits.{slice_split-cons_yes, slice_split-cons_no}
use Rattle.pv_words.specs.Split.{HasNone}
use Rattle.pv_editor.specs.Groups.{comma_parts}

-- what comes before the first comma is the first part
pub parts_at : (part later : List ℕ) → HasNone 44 part → comma_parts (part ++ 44 ∷ later) ≡ part ∷ comma_parts later
parts_at [] later none = slice_split-cons_yes (λ b. eqb b 44) 44 later refl
parts_at (b ∷ part) later none =
    slice_split-cons_no (λ b. eqb b 44) b (part ++ 44 ∷ later) (ne_eqb b 44 none.0) ∙ ap (onto_first b) (parts_at part later none.1)

-- a text without a comma is one part
pub parts_none : (part : List ℕ) → HasNone 44 part → comma_parts part ≡ part ∷ []
parts_none [] none = refl
parts_none (b ∷ part) none =
    slice_split-cons_no (λ b. eqb b 44) b part (ne_eqb b 44 none.0) ∙ ap (onto_first b) (parts_none part none.1)
