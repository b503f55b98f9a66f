use Rattle.std.proofs.Common.{ap}
use Rattle.pv_charge.specs.declared.bill.Bill.{Bill}
use Rattle.pv_udc.proofs.state.UdcState.bill.Goals as goal

pub returns-clause-lines : goal.returns-clause-lines
returns-clause-lines c =
    let list = c.args.self.now in ap (λ (b : Bill). b.lines) (c.bill.ensures list.limits.records list.records c.charges.ensures.charged)

pub returns-clause-pence : goal.returns-clause-pence
returns-clause-pence c =
    let list = c.args.self.now in ap (λ (b : Bill). b.pence) (c.bill.ensures list.limits.records list.records c.charges.ensures.charged)
