use Rattle.std.proofs.Common.{◌-◌, ◌≤◌, take, length}
use Rattle.pv_screen.proofs.Vocabulary.{Appends, cells_bytes}
use Rattle.pv_screen.proofs.painting.put_cells.Given as goal

-- the cells so far are appended
abbrev pub invariant-loop-at : goal.invariant-loop-at
invariant-loop-at l = record {
  within : l.at ≤ length l.cells;
  painted : Appends l.initial.out l.out (cells_bytes (take l.at l.cells));
}

abbrev pub decreases-loop-at : goal.decreases-loop-at
decreases-loop-at l = length l.cells - l.at
