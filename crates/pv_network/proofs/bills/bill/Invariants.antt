use Rattle.pv_network.proofs.GoingBack.{IsGoingBack, left}
use Rattle.pv_network.proofs.bills.bill.Given as goal

-- the lines after the next one were found
abbrev pub invariant-loop-next : goal.invariant-loop-next
invariant-loop-next l = IsGoingBack l.update.records l.account l.next l.lines

abbrev pub decreases-loop-next : goal.decreases-loop-next
decreases-loop-next l = left l.next
