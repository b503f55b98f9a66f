use Rattle.std.proofs.Common.{◌≡◌, ℕ, suc, ◌+◌, ◌<◌, length, take, drop, Some, ap, sym, ◌∙◌, arith}
use Rattle.std.specs.Prelude.{slice_get}
use Rattle.pv_edits.specs.declared.record.Record.{Record}
use Rattle.pv_statement.specs.Statement.{month_lines, month_pence, statement_lines, text_of_line, count_of_line, pence_of_line, line_in_month}
use Rattle.pv_statement.proofs.Walking.{found, text_more, count_more, pence_more, text_parted}
use Rattle.pv_statement.proofs.Writes.{appends_more, writes_part}
use Rattle.pv_statement.proofs.writing.put_lines.Goals as goal

-- one record more
pub loop-place-preserved : goal.loop-place-preserved
loop-place-preserved g c =
    let records = c.args.udc.now.records in
    let u = c.args.account in
    let y = c.args.month.now.year in
    let m = c.args.month.now.number in
    let place = c.loop-place.place in
    let within : place < length records = omega (arith, c.loop-place-test.true, c.front-place-end.ensures.value) in
    let at = found records place within in
    let edit = at.0 in
    let put = c.in_ok-put_at.ensures in
    let brought = line_in_month u y m edit in
    let lines : c.put_at.new.bill.lines ≡ c.loop-place.bill.lines + count_of_line brought = put.lines edit at.1 in
    let pence : c.put_at.new.bill.pence ≡ c.loop-place.bill.pence + pence_of_line brought = put.pence edit at.1 in
    record {
      written = appends_more _ _ _ (statement_lines (take place records) u y m) (text_of_line y m brought) (text_more u y m records place edit at.1)
          c.loop-place.invariant.written (put.written edit at.1);
      counted = omega (arith, c.loop-place.invariant.counted, put.counted.counted);
      lines = lines ∙ ap (λ (n : ℕ). n + count_of_line brought) c.loop-place.invariant.lines ∙ sym (count_more u y m records place edit at.1);
      pence = pence ∙ ap (λ (n : ℕ). n + pence_of_line brought) c.loop-place.invariant.pence ∙ sym (pence_more u y m records place edit at.1);
      few = put.few;
      low = put.low;
    }

-- the lines after the one that failed are not written
pub returns-in_err-put_at-clause-written : goal.returns-in_err-put_at-clause-written
returns-in_err-put_at-clause-written g c =
    let records = c.args.udc.now.records in
    let u = c.args.account in
    let y = c.args.month.now.year in
    let m = c.args.month.now.number in
    let place = c.loop-place.place in
    let within : place < length records = omega (arith, c.loop-place-test.true, c.front-place-end.ensures.value) in
    let at = found records place within in
    let edit = at.0 in
    writes_part _ _ _ (statement_lines (take place records) u y m) (text_of_line y m (line_in_month u y m edit)) (statement_lines (drop (suc place) records) u y m)
    c.from_residual.result c.from_residual.ensures.0 (text_parted u y m records place edit at.1) c.loop-place.invariant.written
    (c.in_err-put_at.ensures.written edit at.1)
