use Rattle.std.proofs.Common.{◌≡◌, ℕ, List, [], ◌++◌, refl, ap, sym, ◌∙◌, append_assoc}
use Rattle.std.proofs.lemmas.List.{append-nil}
use Rattle.pv_statement.specs.Statement.{head_text, statement_lines, sum_text, month_pence}
use Rattle.pv_statement.proofs.Writes.{appends_none, appends_more, writes_part}
use Rattle.pv_statement.proofs.writing.put_statement.Goals as goal

-- the first line failed, and so on: what comes later is not written
pub returns-in_err-put_head-clause-written : goal.returns-in_err-put_head-clause-written
returns-in_err-put_head-clause-written g c =
    let records = c.args.udc.now.records in
    let u = c.args.account in
    let y = c.args.month.now.year in
    let m = c.args.month.now.number in
    writes_part _ _ _ [] (head_text u y m) (statement_lines records u y m ++ sum_text (month_pence records u y m))
    c.from_residual.result c.from_residual.ensures.0
    (append_assoc (head_text u y m) (statement_lines records u y m) (sum_text (month_pence records u y m)))
    (appends_none _) c.in_err-put_head.ensures.written

pub returns-in_err-bill-clause-written : goal.returns-in_err-bill-clause-written
returns-in_err-bill-clause-written g c =
    let records = c.args.udc.now.records in
    let u = c.args.account in
    let y = c.args.month.now.year in
    let m = c.args.month.now.number in
    writes_part _ _ _ (head_text u y m) (statement_lines records u y m) (sum_text (month_pence records u y m))
    c.from_residual-in_err-bill.result c.from_residual-in_err-bill.ensures.0 refl
    c.in_ok-put_head.ensures.written c.in_err-bill.ensures.written

pub returns-in_err-put_sum-clause-written : goal.returns-in_err-put_sum-clause-written
returns-in_err-put_sum-clause-written g c =
    let records = c.args.udc.now.records in
    let u = c.args.account in
    let y = c.args.month.now.year in
    let m = c.args.month.now.number in
    let before = head_text u y m ++ statement_lines records u y m in
    let sum = sum_text c.in_ok-bill.bill.pence in
    let is : sum ≡ sum_text (month_pence records u y m) = ap sum_text c.in_ok-bill.ensures.pence in
    writes_part _ _ _ before sum [] c.from_residual-in_err-put_sum.result c.from_residual-in_err-put_sum.ensures.0
    (ap (λ (l : List ℕ). before ++ l) (sym is) ∙ sym (append-nil (before ++ sum)))
    (appends_more _ _ _ (head_text u y m) (statement_lines records u y m) refl c.in_ok-put_head.ensures.written c.in_ok-bill.ensures.written)
    c.in_err-put_sum.ensures.written

pub returns-clause-written : goal.returns-clause-written
returns-clause-written g c =
    let records = c.args.udc.now.records in
    let u = c.args.account in
    let y = c.args.month.now.year in
    let m = c.args.month.now.number in
    let before = head_text u y m ++ statement_lines records u y m in
    let sum = sum_text c.in_ok-bill.bill.pence in
    let is : sum ≡ sum_text (month_pence records u y m) = ap sum_text c.in_ok-bill.ensures.pence in
    appends_more _ _ _ before sum (ap (λ (l : List ℕ). before ++ l) (sym is))
    (appends_more _ _ _ (head_text u y m) (statement_lines records u y m) refl c.in_ok-put_head.ensures.written c.in_ok-bill.ensures.written)
    c.in_ok-put_sum.ensures.written
