use Rattle.std.proofs.Common.{◌+◌, arith}
use Rattle.pv_traffic.specs.declared.packets.Span.{Span}
use Rattle.pv_traffic.proofs.Runs.{packets_pushed, spelled_pushed}
use Rattle.pv_traffic.proofs.packets.Packets.push.Goals as goal
use Rattle.pv_traffic.proofs.packets.Packets.push.Goals.{After-push_reserved}

-- where they are
abbrev span : After-push_reserved → Span
span c = record { start = c.len-start.result; end = c.len-start.result + c.spell-size.result }

pub invariant_of-self : goal.invariant_of-self
invariant_of-self c =
    let laws = c.a_packet_is_read_as_it_is_spelled.ensures in
    let packet = c.args.packet.now in
    let now = (goal.at.invariant_of-self c).After-push_reserved in
    let done = spelled_pushed c.self.inside.bytes.items c.self.inside.spans.items c.self.invariant.0 packet c.requires.within
    (laws.read packet c.requires.within) (laws.size packet c.requires.within) (span now)
    (omega (arith, c.len-start.ensures)) (omega (arith, c.len-start.ensures, c.spell-size.ensures.size)) in (
      rw (c.append.ensures.items, c.spell-size.ensures.spelled, c.push_reserved.ensures.items) done,
      omega (arith, c.self.invariant.1, c.append.ensures.capacity),
      omega (arith, c.self.invariant.2, c.push_reserved.ensures.capacity),
    )

pub returns : goal.returns
returns c =
    let laws = c.a_packet_is_read_as_it_is_spelled.ensures in
    let packet = c.args.packet.now in
    let now = (goal.at.returns c).After-push_reserved in
    rw (← c.self.view_is, c.append.ensures.items, c.spell-size.ensures.spelled, c.push_reserved.ensures.items)
    (packets_pushed c.self.inside.bytes.items c.self.inside.spans.items c.self.invariant.0 packet c.requires.within
    (laws.read packet c.requires.within) (laws.size packet c.requires.within) (span now)
    (omega (arith, c.len-start.ensures)) (omega (arith, c.len-start.ensures, c.spell-size.ensures.size)))
