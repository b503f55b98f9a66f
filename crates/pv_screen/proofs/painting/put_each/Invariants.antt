use Rattle.std.proofs.Common.{take}
use Rattle.pv_screen.proofs.Vocabulary.{Appends, cells_bytes}
use Rattle.pv_screen.proofs.painting.put_each.Given as goal

-- the cells so far are appended
abbrev pub invariant-loop-cell : goal.invariant-loop-cell
invariant-loop-cell l = Appends l.initial.out l.out (cells_bytes (take l.cell-index l.cells))
