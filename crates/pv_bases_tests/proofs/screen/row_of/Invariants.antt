use Rattle.std.proofs.Common.{◌≡◌, length, All}
use Rattle.pv_cells.specs.Row.{IsCell}
use Rattle.pv_bases_tests.proofs.screen.row_of.Given as goal

-- the row has its cells, and none over 127
abbrev pub invariant-loop-at : goal.invariant-loop-at
invariant-loop-at l = (length l.row ≡ 40) × All IsCell l.row
