use Rattle.std.proofs.Common.{rules, ◌≡◌, inl, inr, ℕ, List, ◌∷◌, ap, subst, ◌∙◌}
use Rattle.std.specs.Result.{result_ok}
use Rattle.pv_cells.specs.Row.{SpellsCells}
use Rattle.pv_editor.specs.Parts.{AreCells}
use Rattle.pv_editor.proofs.cells.cells_after.Goals as goal

-- after the space stands the text of the cells
text_after : (width space : ℕ) (tail text cells : List ℕ) → tail ≡ space ∷ text → (are : AreCells width tail cells)
    → SpellsCells width text cells
text_after width space tail text cells is are =
    elim (are.after) [
      | inl none ↦ let nothing = none.0 in absurd cc
      | inr after ↦ let same : are.text ≡ text = cc in subst (λ (t : List ℕ). SpellsCells width t cells) same are.spells
    ]

pub returns-then-space-eq32-clause-only : goal.returns-then-space-eq32-clause-only
returns-then-space-eq32-clause-only g c = λ cells are.
    let is : c.args.tail.now ≡ c.in-Some.space.now ∷ c.in-Some.text.now = search rules in
    let spells = text_after g.row.N c.in-Some.space.now c.args.tail.now c.in-Some.text.now cells is are in
    c.ok-then-space-eq32.ensures.value ∙ ap result_ok (c.cells_of-then-space-eq32.ensures.only cells spells)
