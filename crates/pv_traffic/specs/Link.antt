-- The link between the Update Centre and a centre: every packet that was made on it, and the end that sends on each way.
use Rattle.std.specs.Prelude.{ℕ, ◌+◌, ◌-◌, ◌<◌, All, Bool, nat_le, List, [], ◌∷◌, ◌++◌, length, map, slice_index_or}
use Rattle.std.specs.List.{sum_by}
use Rattle.pv_link.specs.Sending.{SendingEnd, new_end, end_after, end_that_heard}
use Rattle.pv_packet.specs.declared.packet.Packet.{Packet}
use Rattle.pv_packet.specs.declared.packet.Packet.TheVariants.{Down, Up, DownHeard, UpHeard}
use Rattle.pv_traffic.specs.declared.packets.TheConstants.{MAX_PACKETS}
use Rattle.pv_traffic.specs.declared.way.Way.{Way}
use Rattle.pv_traffic.specs.declared.way.Way.TheVariants as ways

-- a link: the packets that went down and those that went up, each in the order made, the end that sends records down, and the
-- centre's end that sends items up
pub record Link : Type 0 where
  pub down : List Packet
  pub up : List Packet
  pub sending : SendingEnd
  pub posting : SendingEnd

-- a link on which nothing was sent
abbrev pub new_link : Link
new_link = record { down = []; up = []; sending = new_end; posting = new_end }

-- the link of a centre; after the last centre there is none, and a new one stands for it
abbrev pub link_in : List Link → ℕ → Link
link_in links c = slice_index_or links c new_link

-- how many packets were made on some links, in both directions
abbrev pub packet_count : List Link → ℕ
packet_count links = sum_by (λ link. length link.down + length link.up) links

-- as many packets were made on the links as may be
abbrev pub is_packets_full : List Link → Bool
is_packets_full links = nat_le MAX_PACKETS (packet_count links)

-- how many packets can still be made
abbrev pub packet_room : List Link → ℕ
packet_room links = MAX_PACKETS - packet_count links

-- ---- ways

-- the way back: what arrives is acknowledged there
abbrev pub back_way : Way → Way
back_way ways.Down = ways.Up
back_way ways.Up = ways.Down

-- the way that a packet goes: records and the acknowledgements of items go down, items and the acknowledgements of records go up
abbrev pub way_of : Packet → Way
way_of (Down centre number rec) = ways.Down
way_of (UpHeard centre number) = ways.Down
way_of (Up centre number item) = ways.Up
way_of (DownHeard centre number) = ways.Up

-- the acknowledgement of `count` of what went a way
abbrev pub ack_packet : Way → ℕ → ℕ → Packet
ack_packet ways.Down c count = DownHeard c count
ack_packet ways.Up c count = UpHeard c count

-- the packets that went a way
abbrev pub packets_on : Way → Link → List Packet
packets_on ways.Down link = link.down
packets_on ways.Up link = link.up

-- the end that sends on a way
abbrev pub end_on : Way → Link → SendingEnd
end_on ways.Down link = link.sending
end_on ways.Up link = link.posting

-- ---- what becomes of a link

-- one packet more went a way
abbrev pub with_packet : Way → Link → Packet → Link
with_packet ways.Down link packet = record link { down = link.down ++ packet ∷ [] }
with_packet ways.Up link packet = record link { up = link.up ++ packet ∷ [] }

-- another end sends on a way
abbrev pub with_end : Way → Link → SendingEnd → Link
with_end ways.Down link end = record link { sending = end }
with_end ways.Up link end = record link { posting = end }

-- the end of a way gives its next number, of `front` to go there
abbrev pub with_given_number : Way → Link → ℕ → Link
with_given_number way link front = with_end way link (end_after (end_on way link) front)

-- a packet goes a way, under that number
abbrev pub with_sent : Way → Link → ℕ → Packet → Link
with_sent way link front packet = with_given_number way (with_packet way link packet) front

-- the end of a way hears that `count` arrived, of `front` in all
abbrev pub with_heard : Way → Link → ℕ → ℕ → Link
with_heard way link front count = with_end way link (end_that_heard (end_on way link) count front)

-- the end of a way is new; the packets stay
abbrev pub with_new_end : Way → Link → Link
with_new_end way link = with_end way link new_end

-- ---- how the code keeps the links: all packets in one row, and of each link the places of its own

-- of a link: the places of the packets that went down and of those that went up, and the ends
pub record Places : Type 0 where
  pub down : List ℕ
  pub up : List ℕ
  pub sending : SendingEnd
  pub posting : SendingEnd

-- no place on a link on which nothing was sent
abbrev pub no_places : Places
no_places = record { down = []; up = []; sending = new_end; posting = new_end }

-- a packet that is in no row
abbrev pub no_packet : Packet
no_packet = DownHeard 0 0

-- the packet at a place of the row
abbrev pub packet_at : List Packet → ℕ → Packet
packet_at packets place = slice_index_or packets place no_packet

-- the link whose packets are at these places
abbrev pub link_of : List Packet → Places → Link
link_of packets here = record {
  down = map (packet_at packets) here.down;
  up = map (packet_at packets) here.up;
  sending = here.sending;
  posting = here.posting;
}

-- the links, each by its places
abbrev pub links_of : List Packet → List Places → List Link
links_of packets links = map (link_of packets) links

-- the places of a link are in the row
pub record IsWithin (packets : List Packet) (here : Places) : Type 0 where
  pub down : All (λ place. place < length packets) here.down
  pub up : All (λ place. place < length packets) here.up

-- the places of each link are
abbrev pub AreWithin : List Packet → List Places → Type 0
AreWithin packets links = All (IsWithin packets) links

-- how many packets the places are of, in both directions
abbrev pub place_count : List Places → ℕ
place_count links = sum_by (λ here. length here.down + length here.up) links

-- the places of the packets that went a way, and the end there
abbrev pub places_on : Way → Places → List ℕ
places_on ways.Down here = here.down
places_on ways.Up here = here.up

abbrev pub end_at : Way → Places → SendingEnd
end_at ways.Down here = here.sending
end_at ways.Up here = here.posting

-- one place more is of a packet that went a way
abbrev pub with_place : Way → Places → ℕ → Places
with_place ways.Down here place = record here { down = here.down ++ place ∷ [] }
with_place ways.Up here place = record here { up = here.up ++ place ∷ [] }

-- another end sends on a way
abbrev pub places_with_end : Way → Places → SendingEnd → Places
places_with_end ways.Down here end = record here { sending = end }
places_with_end ways.Up here end = record here { posting = end }
