use Rattle.std.{proofs.Common.{◌≡◌, take}, specs.List.list_all}
use Rattle.pv_screen.specs.Painting.{is_ordinary}
use Rattle.pv_screen.proofs.painting.are_ordinary.Given as goal

-- the cells so far have no attribute, or one is found
abbrev pub invariant-loop-cell : goal.invariant-loop-cell
invariant-loop-cell l = l.ordinary ≡ list_all is_ordinary (take l.cell-index l.cells)
