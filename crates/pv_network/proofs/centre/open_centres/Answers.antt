use Rattle.pv_network.proofs.Standing.{one_more_new}
use Rattle.pv_network.proofs.centre.open_centres.Goals as goal

-- one more is new, under the next number
pub loop-number-preserved : goal.loop-number-preserved
loop-number-preserved c =
    rw c.in_ok-push.ensures.items
    (one_more_new c.args.limits c.loop-number.number c.loop-number.centres.items c.in_ok-open.field-0 c.loop-number.invariant
    c.in_ok-open.ensures)
