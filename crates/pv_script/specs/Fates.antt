-- The fates of the records of cuts, as a transcript has them: kept, or lost.
use Rattle.std.specs.Prelude.{◌≡◌, ℕ, Bool, true, false, List, [], ◌∷◌, ◌++◌, codes, if◌then◌else◌}
use Rattle.std.specs.List.{flat_map}
use Rattle.pv_words.specs.Lines.{lines_of}
use Rattle.pv_network.specs.declared.outcome.Outcome.{Outcome}
use Rattle.pv_network.specs.declared.outcome.Outcome.TheVariants as outcomes
use Rattle.pv_network.specs.Step.{Choice}
use Rattle.pv_network.specs.World.{World}
use Rattle.pv_script.specs.declared.grammar.Command.{Command}
use Rattle.pv_script.specs.Tally.{outcomes_of}
use Rattle.pv_script.specs.Words.{is_text}

-- the fate that a line says, if it says one: the record was kept, or not
abbrev pub fate_in : List ℕ → List Bool
fate_in line =
    if is_text line (codes "kept") then true ∷ [] else
    if is_text line (codes "lost") then false ∷ [] else
    []

-- those that the lines of a text say, in order
abbrev pub fates_in : List ℕ → List Bool
fates_in text = flat_map fate_in (lines_of text)

-- the fate of a cut's record, if it was to store one
abbrev pub fate_of : Outcome → List Bool
fate_of outcomes.Kept = true ∷ []
fate_of outcomes.Lost = false ∷ []
fate_of _ = []

-- the lines of a text say these, and those after it go on
abbrev pub HasFates : List ℕ → List Bool → Type 0
HasFates text fates = (rest : List ℕ) → fates_in (text ++ rest) ≡ fates ++ fates_in rest

-- those of an answer say the fates among these outcomes, and no other
abbrev pub HasFatesOf : List ℕ → List Outcome → Type 0
HasFatesOf text came = HasFates text (flat_map fate_of came)

-- the fates among what came of commands, in order
abbrev pub fates_of : World → List (Command × Choice) → List Bool
fates_of first runs = flat_map fate_of (outcomes_of first runs)
