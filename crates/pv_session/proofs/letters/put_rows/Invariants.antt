use Rattle.std.proofs.Common.{take}
use Rattle.std.specs.Prelude.{flat_map}
use Rattle.pv_fields.specs.Out.{Appends}
use Rattle.pv_screen.specs.Composing.{at_left}
use Rattle.pv_session.proofs.letters.put_rows.Given as goal

-- the rows so far are appended
abbrev pub invariant-loop-row : goal.invariant-loop-row
invariant-loop-row l = Appends l.initial.out l.out (flat_map (at_left 40) (take l.row-index l.rows))
