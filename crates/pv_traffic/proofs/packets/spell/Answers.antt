use Rattle.std.proofs.Common.{◌≡◌, ◌≤◌, length, ap, ◌∙◌, arith, rules}
use Rattle.std.proofs.lemmas.List.{take_at}
use Rattle.pv_fields.specs.Out.{room_of, Appends}
use Rattle.pv_fields.proofs.CallerLemmas.{slice_after, appends_all}
use Rattle.pv_packet.specs.Packet.{packet_bytes}
use Rattle.pv_packet.specs.declared.head.TheConstants.{PACKET_BYTES}
use Rattle.pv_traffic.proofs.packets.spell.Goals as goal
use Rattle.pv_traffic.proofs.packets.spell.Goals.{After-written}

-- it fits
fits : (c : After-written) → length (packet_bytes c.args.packet.now) ≤ PACKET_BYTES
fits c = c.a_packet_is_read_as_it_is_spelled.ensures.size c.args.packet.now c.requires

-- the spelling of the packet was written
whole : (c : After-written) → Appends c.new-out.result c.encode.new.out (packet_bytes c.args.packet.now)
whole c =
    let room : room_of c.new-out.result ≡ PACKET_BYTES = ap length c.new-out.ensures.rest ∙ c.told-into in
    appends_all c.encode.result c.new-out.result c.encode.new.out (packet_bytes c.args.packet.now) c.encode.ensures
    (omega (arith, room, fits c))

pub shape_of-into : goal.shape_of-into
shape_of-into c = let slice = (whole c).slice in search rules

pub returns-clause-within : goal.returns-clause-within
returns-clause-within c =
    let size = (slice_after c.new-out.result c.encode.new.out _ c.new-out.ensures.empty (whole c)).1 in
    omega (arith, size, fits c, c.written.ensures.count)

pub returns-clause-size : goal.returns-clause-size
returns-clause-size c =
    let size = (slice_after c.new-out.result c.encode.new.out _ c.new-out.ensures.empty (whole c)).1 in
    omega (arith, size, c.written.ensures.count)

pub returns-clause-spelled : goal.returns-clause-spelled
returns-clause-spelled c =
    let after = slice_after c.new-out.result c.encode.new.out _ c.new-out.ensures.empty (whole c) in
    let bytes = packet_bytes c.args.packet.now in
    let size : length bytes ≡ c.written.result = omega (arith, after.1, c.written.ensures.count) in
    rw after.0 (take_at bytes _ c.written.result size)
