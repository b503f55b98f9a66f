use Rattle.std.proofs.Common.{ℕ, List, subst, sym}
use Rattle.pv_cells.specs.declared.reading.TheConstants.{ROW_LENGTH}
use Rattle.pv_words.proofs.Values.{missing, pair}
use Rattle.pv_editor.specs.Parts.{AreCells, IsRowNumber}
use Rattle.pv_editor.proofs.cells.RowTextReader.read.Goals as goal

-- what follows the row's number is no cells
pub returns-in_err-cells-clause-only : goal.returns-in_err-cells-clause-only
returns-in_err-cells-clause-only c = λ value is.
    let same = c.split_word.ensures.only is.word is.later is.split in
    absurd (missing _ (c.in_err-cells.ensures.only value.1 (subst (λ (t : List ℕ). AreCells ROW_LENGTH t value.1) (sym same.1) is.others)))

pub returns-clause-only : goal.returns-clause-only
returns-clause-only c = λ value is.
    let same = c.split_word.ensures.only is.word is.later is.split in
    pair _ _ _ _ (c.in_ok-row.ensures.only value.0 (subst (λ (t : List ℕ). IsRowNumber value.0 t) (sym same.0) is.first))
    (c.in_ok-cells.ensures.only value.1 (subst (λ (t : List ℕ). AreCells ROW_LENGTH t value.1) (sym same.1) is.others))
