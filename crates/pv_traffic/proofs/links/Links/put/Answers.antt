use Rattle.std.proofs.Common.{arith}
use Rattle.std.proofs.lemmas.List.{length-set}
use Rattle.pv_traffic.specs.Link.{with_place}
use Rattle.pv_traffic.proofs.Rows.{room_left, places_within, packed, count_on, size_placed, within_placed, stored}
use Rattle.pv_traffic.proofs.links.Links.put.Goals as goal

-- the link has room for a place
pub add-index-requires : goal.add-index-requires
add-index-requires c =
    let packets = c.self.inside.packets in
    let links = c.self.inside.links.items in
    let there = rw (← c.self.view_is) at c.requires.there in
    let few = room_left packets links c.self.invariant.1 (rw (← c.self.view_is) at c.requires.room) in
    let size = places_within packets links c.args.link there c.index_mut.result.now c.index_mut.ensures.value c.args.way in
    omega (arith, few, size, c.self.invariant.1)

-- the place is one of the row
pub invariant_of-self : goal.invariant_of-self
invariant_of-self c =
    let packets = c.self.inside.packets in
    let links = c.self.inside.links.items in
    let there = rw (← c.self.view_is) at c.requires.there in
    let here = c.index_mut.result.now in
    let packet = c.args.packet.now in
    let place = c.len-place.result in
    let next = with_place c.args.way here place in
    let row = within_placed packets links c.args.link there here c.index_mut.ensures.value c.self.invariant.0 packet place
    c.len-place.ensures c.args.way in
    let done = stored packets links c.args.link there here c.index_mut.ensures.value c.self.invariant.0 packet place c.len-place.ensures
    next row (size_placed c.args.way here place) c.self.invariant.1 in
    rw (c.add-index.ensures.added, c.push.ensures)
    (done.0, done.1, omega (arith, length-set links c.args.link next, c.self.invariant.2))

-- the link has the packet
pub returns-clause-made : goal.returns-clause-made
returns-clause-made c =
    let there = rw (← c.self.view_is) at c.requires.there in
    rw (← c.self.view_is, c.add-index.ensures.added, c.push.ensures)
    (packed c.self.inside.packets c.self.inside.links.items c.args.link there c.index_mut.result.now c.index_mut.ensures.value
    c.self.invariant.0 c.args.packet.now c.len-place.result c.len-place.ensures c.args.way)

-- its index is the count of those before it
pub returns-clause-index : goal.returns-clause-index
returns-clause-index c =
    let there = rw (← c.self.view_is) at c.requires.there in
    rw (← c.self.view_is, c.add-index.ensures.index)
    (count_on c.self.inside.packets c.self.inside.links.items c.args.link there c.index_mut.result.now c.index_mut.ensures.value c.args.way)
