-- Packets: what a send, an arrival and a carry make of the world, and the answers to them. All is said of a way: records go down and
-- are acknowledged by a centre, items go up and are acknowledged by the Update Centre.
use Rattle.std.specs.Prelude.{ℕ, zero, suc, ◌+◌, is_some, length, Option, Some, None, option_map, slice_get, if◌then◌else◌}
use Rattle.pv_link.specs.Sending.{number_to_give}
use Rattle.pv_edits.specs.Edits.{taken_of}
use Rattle.pv_edits.specs.declared.record.Record.{Record}
use Rattle.pv_packet.specs.declared.packet.Packet.{Packet}
use Rattle.pv_packet.specs.declared.packet.Packet.TheVariants.{Down, Up, DownHeard, UpHeard}
use Rattle.pv_post.specs.declared.item.Item.{Item}
use Rattle.pv_udc.specs.Replies.{down_of}
use Rattle.pv_udc.specs.Requests.{record_of}
use Rattle.pv_udc.specs.declared.request.UdcRequest.TheVariants.{TakeUp}
use Rattle.pv_network.specs.declared.arrival.Arrival.{Arrival}
use Rattle.pv_network.specs.declared.arrival.Arrival.TheVariants as arrivals
use Rattle.pv_network.specs.declared.load.Load.{Load}
use Rattle.pv_network.specs.declared.outcome.Outcome.{Outcome}
use Rattle.pv_network.specs.declared.outcome.Outcome.TheVariants as outcomes
use Rattle.pv_network.specs.declared.round.Round.{Round}
use Rattle.pv_network.specs.declared.round.Round.TheVariants as rounds
use Rattle.pv_traffic.specs.declared.way.Way.{Way}
use Rattle.pv_traffic.specs.declared.way.Way.TheVariants as ways
use Rattle.pv_network.specs.Centre.{with_next, record_count, arrival_of}
use Rattle.pv_traffic.specs.Link.{is_packets_full, packet_room, back_way, ack_packet, packets_on, end_on, with_packet, with_sent, with_heard}
use Rattle.pv_network.specs.World.{World, centre_at, link_at, with_centre, with_link, with_edit}

-- ---- what goes a way

-- how many there are to go: records of the edit list, or items of the centre
abbrev pub front_of : Way → World → ℕ → ℕ
front_of ways.Down w c = length w.update.records
front_of ways.Up w c = length (centre_at w c).calls.items

-- how many were received: records that the centre has applied, or items of it that were taken up
abbrev pub received_count : Way → World → ℕ → ℕ
received_count ways.Down w c = (centre_at w c).applied
received_count ways.Up w c = taken_of w.update.records c

-- how many records the node has that receives
abbrev pub receiver_count : Way → World → ℕ → ℕ
receiver_count ways.Down w c = record_count (centre_at w c)
receiver_count ways.Up w c = length w.update.records

-- the packet of the record of a number: it has what goes down of the record
abbrev pub record_packet : ℕ → ℕ → Record → Packet
record_packet c number edit = Down c number (down_of edit)

-- the packet of what has this number, if there is such
abbrev pub packet_for : Way → World → ℕ → ℕ → Option Packet
packet_for ways.Down w c number = option_map (record_packet c number) (slice_get w.update.records number)
packet_for ways.Up w c number = option_map (Up c number) (slice_get (centre_at w c).calls.items number)

-- the number that the end gives next, if it gives one
abbrev pub next_number_on : Way → World → ℕ → Option ℕ
next_number_on way w c = number_to_give (end_on way (link_at w c)) (front_of way w c)

-- ---- send, post

-- the answer to a packet that was made with this number
abbrev pub sent_answer : Way → ℕ → ℕ → Outcome
sent_answer ways.Down index number = outcomes.SentRecord index number
sent_answer ways.Up index number = outcomes.SentItem index number

-- the packet of a number goes; without a packet there is nothing to send
abbrev pub step_of_packing : Way → World → ℕ → ℕ → Option Packet → World × Outcome
step_of_packing way w c number None = (w, outcomes.Idle)
step_of_packing way w c number (Some packet) = (
  with_link w c (with_sent way (link_at w c) (front_of way w c) packet),
  sent_answer way
      (length (packets_on way (link_at w c))) number,
)

-- the packet of the number that the end gives, if it gives one
abbrev pub step_of_number : Way → World → ℕ → Option ℕ → World × Outcome
step_of_number way w c None = (w, outcomes.Idle)
step_of_number way w c (Some number) = step_of_packing way w c number (packet_for way w c number)

-- the next packet goes a way, unless none can be made
abbrev pub step_of_sending : Way → World → ℕ → World × Outcome
step_of_sending way w c =
    if is_packets_full w.links then (w, outcomes.PacketsFull) else step_of_number way w c (next_number_on way w c)

-- the next record is packed for a centre
abbrev pub step_of_send : World → ℕ → World × Outcome
step_of_send w c = step_of_sending ways.Down w c

-- the next item of a centre is packed for the Update Centre
abbrev pub step_of_post : World → ℕ → World × Outcome
step_of_post w c = step_of_sending ways.Up w c

-- ---- deliver, back

-- The receiver sends its count back in an acknowledgement, unless no packet can be made: the world, and the acknowledgement's
-- index.
abbrev pub step_of_acknowledging : Way → World → ℕ → World × Option ℕ
step_of_acknowledging way w c =
    if is_packets_full w.links then (w, None)
    else (
      with_link w c (with_packet (back_way way) (link_at w c) (ack_packet way c (received_count way w c))),
      Some (length (packets_on
          (back_way way) (link_at w c))),
    )

-- what the receiver does with what arrives under a number
abbrev pub arrival_on : Way → World → ℕ → ℕ → Arrival
arrival_on way w c number = arrival_of (received_count way w c) (receiver_count way w c) w.update.limits.records number

-- what comes next is taken, which leaves the world `taken`; else the world stays
abbrev pub world_after : World → World → Arrival → World
world_after w taken arrivals.Taken = taken
world_after w taken arrivals.Old = w
world_after w taken arrivals.Early = w
world_after w taken arrivals.Full = w

-- What was taken is acknowledged, and so is what is old or early. A full receiver acknowledges nothing.
abbrev pub step_of_answer : Way → World → ℕ → ℕ → Arrival → World × Outcome
step_of_answer way w c number arrivals.Taken = let a = step_of_acknowledging way w c in (a.0, outcomes.Taken number a.1)
step_of_answer way w c number arrivals.Old = let a = step_of_acknowledging way w c in (a.0, outcomes.Old number a.1)
step_of_answer way w c number arrivals.Early = let a = step_of_acknowledging way w c in (a.0, outcomes.Early number a.1)
step_of_answer way w c number arrivals.Full = (w, outcomes.Full (receiver_count way w c))

-- what has this number arrives
abbrev pub step_of_arrival : Way → World → World → ℕ → ℕ → World × Outcome
step_of_arrival way w taken c number =
    let how = arrival_on way w c number in step_of_answer way (world_after w taken how) c number how

-- the world with the next record applied at a centre
abbrev pub with_next_at : World → ℕ → World
with_next_at w c = with_centre w c (with_next (centre_at w c))

-- the world with an item of a centre taken up under a number
abbrev pub with_item_of : World → ℕ → ℕ → Item → World
with_item_of w c number item = with_edit w (Some (record_of (TakeUp c number item)))

-- an acknowledgement arrives, and the end of what it acknowledges hears it
abbrev pub step_of_hearing : Way → World → ℕ → ℕ → World × Outcome
step_of_hearing way w c count = (with_link w c (with_heard way (link_at w c) (front_of way w c) count), outcomes.Heard count)

-- a packet arrives
abbrev pub step_of_packet : World → ℕ → Packet → World × Outcome
step_of_packet w c (Down from number rec) = step_of_arrival ways.Down w (with_next_at w c) c number
step_of_packet w c (Up from number item) = step_of_arrival ways.Up w (with_item_of w c number item) c number
step_of_packet w c (DownHeard from count) = step_of_hearing ways.Down w c count
step_of_packet w c (UpHeard from count) = step_of_hearing ways.Up w c count

-- a packet that was found arrives
abbrev pub step_of_found : World → ℕ → Option Packet → World × Outcome
step_of_found w c None = (w, outcomes.NoPacket)
step_of_found w c (Some packet) = step_of_packet w c packet

-- the packet of an index arrives, of those that went a way
abbrev pub step_of_arriving : Way → World → ℕ → ℕ → World × Outcome
step_of_arriving way w c index = step_of_found w c (slice_get (packets_on way (link_at w c)) index)

-- it arrives at a centre
abbrev pub step_of_deliver : World → ℕ → ℕ → World × Outcome
step_of_deliver w c index = step_of_arriving ways.Down w c index

-- it arrives at the Update Centre
abbrev pub step_of_back : World → ℕ → ℕ → World × Outcome
step_of_back w c index = step_of_arriving ways.Up w c index

-- ---- carry: what is read of an outcome

-- the index of the packet that was made, if one was
abbrev pub packet_in : Outcome → Option ℕ
packet_in (outcomes.SentRecord index number) = Some index
packet_in (outcomes.SentItem index number) = Some index
packet_in _ = None

-- the index of the acknowledgement that was made, if one was
abbrev pub ack_in : Outcome → Option ℕ
ack_in (outcomes.Taken number ack) = ack
ack_in (outcomes.Old number ack) = ack
ack_in (outcomes.Early number ack) = ack
ack_in _ = None

-- the round whose packet arrived with this outcome
abbrev pub round_by : Outcome → Round
round_by (outcomes.Taken number ack) = rounds.Taken
round_by (outcomes.Old number ack) = rounds.Again
round_by (outcomes.Early number ack) = rounds.Again
round_by outcome = rounds.Stopped outcome

-- ---- carry: a round

-- what was acknowledged on a way is heard, if an acknowledgement was made
abbrev pub with_ack_back : Way → World → ℕ → Option ℕ → World
with_ack_back way w c None = w
with_ack_back way w c (Some index) = (step_of_arriving (back_way way) w c index).0

-- a packet arrives, and so does its acknowledgement
abbrev pub round_of_packet : Way → World → ℕ → ℕ → World × Round
round_of_packet way w c index =
    let arrived = step_of_arriving way w c index in (with_ack_back way arrived.0 c (ack_in arrived.1), round_by arrived.1)

-- the packet that a send made, if it made one
abbrev pub round_of_send : Way → World → ℕ → Outcome → Option ℕ → World × Round
round_of_send way w c sent None = (w, rounds.Stopped sent)
round_of_send way w c sent (Some index) = round_of_packet way w c index

-- a round on a way: the next packet is sent and arrives, and so does its acknowledgement
abbrev pub step_of_round : Way → World → ℕ → World × Round
step_of_round way w c = let sent = step_of_sending way w c in round_of_send way sent.0 c sent.1 (packet_in sent.1)

-- another round may come after it
abbrev pub GoesOn : Round → Type 0
GoesOn rounds.Taken = Unit {0}
GoesOn rounds.Again = Unit {0}
GoesOn (rounds.Stopped outcome) = ⊥

-- ---- carry: all rounds

-- the way of the next round: the same way as long as its end gives a number, else the other one; none if both ends are idle
abbrev pub way_on : Way → World → ℕ → Option Way
way_on way w c =
    if is_some (next_number_on way w c) then Some way
    else if is_some (next_number_on (back_way way) w c) then Some (back_way way)
    else None

-- nothing was taken yet
abbrev pub no_load : Load
no_load = record { records = 0; items = 0 }

-- one more was taken on a way
abbrev pub with_one : Way → Load → Load
with_one ways.Down load = record load { records = load.records + 1 }
with_one ways.Up load = record load { items = load.items + 1 }

-- what comes after a round on a way
abbrev pub after_round : (World → Way → Load → World × Outcome) → World → Way → Load → Round → World × Outcome
after_round more w way load rounds.Taken = more w way (with_one way load)
after_round more w way load rounds.Again = more w way load
after_round more w way load (rounds.Stopped outcome) = (w, outcome)

-- a round on the next way with what comes after it; without a next way all is carried
abbrev pub rounds_on : (World → Way → Load → World × Outcome) → World → ℕ → Load → Option Way → World × Outcome
rounds_on more w c load None = (w, outcomes.Carried load.records load.items)
rounds_on more w c load (Some way) = let round = step_of_round way w c in after_round more round.0 way load round.1

-- At most this many rounds, if the last one was on this way, with this much taken before them. After the last of them no packet can
-- be made.
unfoldable pub carry_rounds : ℕ → ℕ → World → Way → Load → World × Outcome
carry_rounds zero c w way load = (w, outcomes.PacketsFull)
carry_rounds (suc more) c w way load = rounds_on (carry_rounds more c) w c load (way_on way w c)

-- A carry: rounds down first, until both ends are idle or one of the rounds stops. Each that goes on made a packet, so that there is
-- at most one round more than packets that can be made.
abbrev pub step_of_carry : World → ℕ → World × Outcome
step_of_carry w c = carry_rounds (packet_room w.links + 1) c w ways.Down no_load
