use Rattle.pv_edits.proofs.Search.{IsSearch, left}
use Rattle.pv_edits.proofs.owner.lot_of.Given as goal

-- no longer root that covers the page is leased
abbrev pub invariant-loop-next : goal.invariant-loop-next
invariant-loop-next l = IsSearch l.records.items l.fn.page l.next

abbrev pub decreases-loop-next : goal.decreases-loop-next
decreases-loop-next l = left l.next
