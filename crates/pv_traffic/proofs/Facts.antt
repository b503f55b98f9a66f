-- Worked examples of links, computed from the definitions.
use Rattle.std.proofs.Common.{◌≡◌, [], ◌∷◌, refl}
use Rattle.pv_packet.specs.declared.packet.Packet.TheVariants.{DownHeard}
use Rattle.pv_traffic.specs.Link.{Link, new_link, packet_count, packet_room, ack_packet, way_of, back_way, with_packet}
use Rattle.pv_traffic.specs.declared.packets.TheConstants.{MAX_PACKETS}
use Rattle.pv_traffic.specs.declared.way.Way.TheVariants as ways

-- 20,000 packets are made at most
pub most_packets : MAX_PACKETS ≡ 20000
most_packets = refl

-- what a centre has heard of records goes up, and what the Update Centre has heard of items goes down
pub records_are_acknowledged : ack_packet ways.Down 2 7 ≡ DownHeard 2 7
records_are_acknowledged = refl

pub items_are_acknowledged : way_of (ack_packet ways.Up 2 7) ≡ back_way ways.Up
items_are_acknowledged = refl

-- a link on which one acknowledgement went up
abbrev heard_link : Link
heard_link = with_packet (back_way ways.Down) new_link (ack_packet ways.Down 0 1)

-- it is one packet, and there is room for all others
pub one_packet : packet_count (new_link ∷ heard_link ∷ []) ≡ 1
one_packet = refl

pub room_for_the_others : packet_room (new_link ∷ heard_link ∷ []) ≡ 19999
room_for_the_others = refl
