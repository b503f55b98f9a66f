use Rattle.std.proofs.Common.{get_or, ap}
use Rattle.std.proofs.lemmas.List.Edits.{map_over_more}
use Rattle.pv_link.specs.Sending.{new_end}
use Rattle.pv_traffic.specs.Link.{places_with_end}
use Rattle.pv_traffic.specs.declared.way.Way.TheVariants as ways
use Rattle.pv_traffic.proofs.links.renew_all.Goals as goal

-- one more is new
pub loop-link-preserved : goal.loop-link-preserved
loop-link-preserved c =
    let below = rw c.deref_mut-link-items.ensures.value at c.loop-link-test.true in
    let here = get_or c.loop-link.link-items c.loop-link.link-index in
    rw c.renew.ensures (map_over_more (λ here. places_with_end ways.Down here new_end) c.args.links.now.items c.loop-link.link-items
    c.loop-link.link-index
    (here c.link-item.result) below c.loop-link.invariant (ap here c.link-item.is))
