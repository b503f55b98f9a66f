use Rattle.std.proofs.Common.{refl, subst, sym}
use Rattle.pv_screen.proofs.{Vocabulary.{IsGrid, blank_grid, HasCells, IsShowable, new_display}, Shows.{IsReadyDisplay-new, IsRow-last}}
use Rattle.pv_screen.proofs.screen.Screen.bytes.Goals as goal

-- a terminal that shows the screen has a grid
pub returns-in-Whole-clause-screen : goal.returns-in-Whole-clause-screen
returns-in-Whole-clause-screen c = λ _.
    let after = c.paint.ensures.ready new_display refl in
    subst IsShowable (sym c.in-Whole.is) (subst IsGrid (c.paint.ensures.shows new_display refl) after.cells)

-- a terminal that shows the row has it as one of a grid
pub returns-in-Row-clause-screen : goal.returns-in-Row-clause-screen
returns-in-Row-clause-screen c = λ has.
    let fits = subst HasCells c.in-Row.is has in
    let after = c.message.ensures.ready fits new_display IsReadyDisplay-new in
    subst IsShowable (sym c.in-Row.is)
    (IsRow-last blank_grid c.in-Row.cells refl (subst IsGrid (c.message.ensures.shows fits new_display IsReadyDisplay-new) after.cells))
