use Rattle.pv_session.proofs.LetterTexts.{body_cells}
use Rattle.pv_session.proofs.letters.letter_screen.Goals as goal

-- the body of a letter has cells
pub of_parts-grid-requires-clause-body : goal.of_parts-grid-requires-clause-body
of_parts-grid-requires-clause-body c = rw c.body.ensures (body_cells c.letter.inside.text c.letter.invariant.text)
