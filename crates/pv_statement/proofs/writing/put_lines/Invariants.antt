use Rattle.std.proofs.Common.{◌≡◌, ◌≤◌, ◌*◌, length, take}
use Rattle.std.specs.Io.KnownBytes.{Appends}
use Rattle.pv_charge.specs.declared.line.TheConstants.{MAX_PRICE}
use Rattle.pv_statement.specs.Statement.{month_lines, month_pence, statement_lines}
use Rattle.pv_statement.proofs.writing.put_lines.Given as goal

-- the lines of the records so far are written and added up
abbrev pub invariant-loop-place : goal.invariant-loop-place
invariant-loop-place g l = record {
  written : Appends (g.K.Sink.written l.initial.out) (g.K.Sink.written l.out)
      (statement_lines (take l.place l.udc.records) l.account l.month.year l.month.number);
  counted : g.K.Sink.write_faults l.initial.out ≤ g.K.Sink.write_faults l.out;
  lines : l.bill.lines ≡ length (month_lines (take l.place l.udc.records) l.account l.month.year l.month.number);
  pence : l.bill.pence ≡ month_pence (take l.place l.udc.records) l.account l.month.year l.month.number;
  few : l.bill.lines ≤ l.place;
  low : l.bill.pence ≤ MAX_PRICE * l.place;
}
