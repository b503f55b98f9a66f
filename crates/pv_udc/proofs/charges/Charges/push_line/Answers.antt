use Rattle.std.proofs.Common.{rules, ◌≡◌, ◌+◌, ◌==◌, ℕ, Bool, cond, length, Some, ap, sym, ◌∙◌, arith}
use Rattle.pv_charge.specs.Line.{Charge}
use Rattle.pv_charge.specs.declared.bill.Bill.{Bill}
use Rattle.pv_index.specs.Indexes.{index_under}
use Rattle.pv_udc.specs.Bills.{bill_of, last_charge}
use Rattle.pv_udc.specs.declared.charges.Entry.{Entry}
use Rattle.pv_udc.proofs.BillsKept.{lines_few, brings-line, IsEntry-line, AreChargesOf-push}
use Rattle.pv_udc.proofs.charges.Charges.push_line.Goals as goal

-- the bill so far has fewer lines than a bill may have
pub add-requires-clause-lines : goal.add-requires-clause-lines
add-requires-clause-lines c =
    let grow = c.requires.grow in
    let bill = c.bill-bill.ensures grow.0 grow.1 grow.2 ∙ ap (λ (l : Charge). bill_of grow.1 l.account) c.line.view_is in
    omega (arith, ap (λ (b : Bill). b.lines) bill, lines_few grow.1 c.args.line.now.account, grow.3, grow.4)

-- its sum is low
pub add-requires-clause-pence : goal.add-requires-clause-pence
add-requires-clause-pence c =
    let grow = c.requires.grow in
    let bill = c.bill-bill.ensures grow.0 grow.1 grow.2 ∙ ap (λ (l : Charge). bill_of grow.1 l.account) c.line.view_is in
    omega (arith, ap (λ (b : Bill). b.pence) bill, grow.2.low c.args.line.now.account, grow.3, grow.4)

pub returns : goal.returns
returns c = λ room records edit is within brings.
    let old = c.args.self.now in
    let line = c.args.line.now in
    let bill = c.bill-bill.ensures room records is ∙ ap (λ (l : Charge). bill_of records l.account) c.line.view_is in
    let before : c.last-before.result ≡ last_charge records line.account =
    c.last-before.ensures ∙ ap (λ (l : Charge). index_under old.last.pairs l.account) c.line.view_is ∙ is.lasts line.account in
    let entry : Entry = record { before = c.last-before.result; bill = c.add.new.self } in
    let lines = c.add.ensures.lines ∙ ap (λ (b : Bill). b.lines + 1) bill in
    let pence = c.add.ensures.pence ∙ ap (λ (b : Bill). b.pence + line.price) bill in
    let key : c.number.result ≡ line.account = c.number.ensures.value ∙ ap (λ (l : Charge). l.account) c.line.view_is in
    let count : c.len.result ≡ length records = omega (arith, c.len.ensures, is.counted) in
    let kept = is.reserved in
    let fit = is.fit in
    AreChargesOf-push old (record { entries = c.push_reserved.new.self; last = c.set.new.self }) room records edit entry is
    (IsEntry-line records edit entry line brings before lines pence c.requires.price)
    c.push_reserved.ensures.items (search (rules, fit))
    (omega (arith, kept.0, c.set.ensures.room), omega (arith, kept.1, c.set.ensures.within))
    (λ account. c.set.ensures.indexes account
    ∙ ap (λ (k : ℕ). cond (k == account) (Some c.len.result) (index_under old.last.pairs account)) key
    ∙ ap (λ (n : ℕ). cond (line.account == account) (Some n) (index_under old.last.pairs account)) count
    ∙ ap (λ (t : Bool). cond t (Some (length records)) (index_under old.last.pairs account)) (sym (brings-line account edit line brings)))
