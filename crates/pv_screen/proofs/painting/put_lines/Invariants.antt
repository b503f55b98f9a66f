use Rattle.std.{proofs.Common.take, specs.List.flat_map}
use Rattle.pv_screen.proofs.Vocabulary.{Appends, line_bytes}
use Rattle.pv_screen.proofs.painting.put_lines.Given as goal

-- the rows so far are appended
abbrev pub invariant-loop-row : goal.invariant-loop-row
invariant-loop-row l = Appends l.initial.out l.out (flat_map line_bytes (take l.row-index l.rows))
