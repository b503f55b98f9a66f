use Rattle.std.proofs.Common.{arith}
use Rattle.std.proofs.lemmas.List.{length-set}
use Rattle.pv_link.specs.Sending.{end_after}
use Rattle.pv_traffic.specs.Link.{end_at, places_with_end}
use Rattle.pv_traffic.proofs.Rows.{ended, end_replaced}
use Rattle.pv_traffic.proofs.links.Links.go_on.Goals as goal

-- the places are where they were
pub invariant_of-self : goal.invariant_of-self
invariant_of-self c =
    let links = c.self.inside.links.items in
    let there = rw (← c.self.view_is) at c.requires in
    let here = c.index_mut.result.now in
    let end = end_after (end_at c.args.way here) c.args.front in
    let done = ended c.self.inside.packets links c.args.link there here c.index_mut.ensures.value c.args.way end c.self.invariant.0
    c.self.invariant.1 in
    rw c.go_on.ensures
    (done.0, done.1, omega (arith, length-set links c.args.link (places_with_end c.args.way here end), c.self.invariant.2))

-- the link has another end
pub returns : goal.returns
returns c =
    let there = rw (← c.self.view_is) at c.requires in
    rw (← c.self.view_is, c.go_on.ensures)
    (end_replaced c.self.inside.packets c.self.inside.links.items c.args.link there c.index_mut.result.now c.index_mut.ensures.value
    c.args.way (λ end. end_after end c.args.front))
