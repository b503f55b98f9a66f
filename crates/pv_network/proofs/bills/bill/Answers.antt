use Rattle.std.proofs.Common.{rules, ◌≡◌, Some, None, ap, ◌∙◌}
use Rattle.std.specs.Prelude.{List}
use Rattle.pv_network.specs.Bills.{bill_answer}
use Rattle.pv_network.specs.declared.outcome.BillLine.{BillLine}
use Rattle.pv_network.proofs.GoingBack.{begins, there, fewer, falls, goes_on, ends}
use Rattle.pv_network.proofs.bills.bill.Goals as goal

-- no line was found
pub loop-next-init : goal.loop-next-init
loop-next-init c = rw (c.last_charge-next.ensures.value, c.new-lines.ensures) (begins c.args.update.now.records c.args.account)

-- the next place is that of a record
pub billed_at-requires : goal.billed_at-requires
billed_at-requires c =
    let place : c.loop-next.next ≡ Some c.in-Some.place = search rules in
    there c.args.update.now.records c.args.account c.loop-next.next c.in-Some.place c.loop-next.lines c.loop-next.invariant place

-- there are fewer lines than a bill may have
pub add-requires : goal.add-requires
add-requires c =
    let place : c.loop-next.next ≡ Some c.in-Some.place = search rules in
    let few = fewer c.args.update.now.records c.args.account c.loop-next.next c.in-Some.place c.loop-next.lines
    c.loop-next.invariant place in
    let within = c.last_charge-next.ensures.within in
    search (rules, few, within)

-- its line is found
pub loop-next-preserved : goal.loop-next-preserved
loop-next-preserved c =
    let place : c.loop-next.next ≡ Some c.in-Some.place = search rules in
    rw (c.charge_before-next.ensures, c.in_ok-add.ensures)
    (goes_on c.args.update.now.records c.args.account c.loop-next.next c.in-Some.place c.loop-next.lines c.loop-next.invariant place
    c.billed_at.result c.billed_at.ensures)

-- the line before it is farther back
pub loop-next-smaller : goal.loop-next-smaller
loop-next-smaller c =
    let place : c.loop-next.next ≡ Some c.in-Some.place = search rules in
    rw (c.charge_before-next.ensures, place)
    (falls c.args.update.now.records c.args.account c.loop-next.next c.in-Some.place c.loop-next.lines c.loop-next.invariant place)

-- all lines were found
pub returns : goal.returns
returns c =
    let none : c.loop-next.next ≡ None = search rules in
    let lines = ends c.args.update.now.records c.args.account c.loop-next.next c.loop-next.lines c.loop-next.invariant none in
    c.answer.ensures ∙ ap (λ (l : List BillLine). bill_answer l) (c.reverse.ensures ∙ lines)
