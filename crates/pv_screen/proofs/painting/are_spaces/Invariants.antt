use Rattle.std.{proofs.Common.{◌≡◌, take}, specs.List.list_all}
use Rattle.pv_screen.specs.Painting.{is_space}
use Rattle.pv_screen.proofs.painting.are_spaces.Given as goal

-- the cells so far are spaces, or another is found
abbrev pub invariant-loop-cell : goal.invariant-loop-cell
invariant-loop-cell l = l.spaces ≡ list_all is_space (take l.cell-index l.cells)
