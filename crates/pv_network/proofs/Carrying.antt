-- The rounds of a carry: each that goes on makes a packet, so that the rounds end.
use Rattle.std.proofs.Common.{◌≡◌, ℕ, zero, suc, ◌+◌, ◌<◌, ◌≤◌, Bool, true, false, cond, List, [], ◌∷◌, length, set, Option, Some, None, refl, sym, ap, subst, ◌∙◌, arith}
use Rattle.std.specs.Prelude.{slice_get}
use Rattle.std.proofs.lemmas.Bool.{leb-false}
use Rattle.std.proofs.lemmas.List.{length-append, length-set}
use Rattle.std.proofs.lemmas.List.Sums.{sum_by-set}
use Rattle.pv_network.specs.declared.arrival.Arrival.{Arrival}
use Rattle.pv_network.specs.declared.arrival.Arrival.TheVariants as arrivals
use Rattle.pv_network.specs.declared.load.Load.{Load}
use Rattle.pv_traffic.specs.declared.way.Way.{Way}
use Rattle.pv_traffic.specs.declared.way.Way.TheVariants as ways
use Rattle.pv_network.specs.declared.outcome.Outcome.{Outcome}
use Rattle.pv_network.specs.declared.outcome.Outcome.TheVariants as outcomes
use Rattle.pv_packet.specs.declared.packet.Packet.{Packet}
use Rattle.pv_packet.specs.declared.packet.Packet.TheVariants.{Down, Up, DownHeard, UpHeard}
use Rattle.pv_link.specs.Sending.{SendingEnd, end_after, end_that_heard}
use Rattle.pv_traffic.specs.declared.packets.TheConstants.{MAX_PACKETS}
use Rattle.pv_network.specs.declared.round.Round.{Round}
use Rattle.pv_network.specs.declared.round.Round.TheVariants as rounds
use Rattle.pv_traffic.specs.Link.{Link, new_link, is_packets_full, packet_count, back_way, ack_packet, packets_on, end_on, with_packet, with_end, with_sent, packet_room}
use Rattle.pv_network.specs.Standing.{State, StandsFor, Performs}
use Rattle.pv_network.specs.Traffic.{front_of, received_count, packet_for, next_number_on, step_of_packing, step_of_number, step_of_sending, step_of_acknowledging, arrival_on, world_after, step_of_answer, with_next_at, with_item_of, step_of_hearing, step_of_packet, step_of_found, step_of_arriving, packet_in, ack_in, with_ack_back, round_of_packet, round_of_send, step_of_round, GoesOn, no_load, with_one, way_on, after_round, rounds_on, carry_rounds, step_of_carry}
use Rattle.pv_network.specs.World.{World, link_at, with_link}
use Rattle.pv_network.proofs.Soundness.{choice}

-- one more than a sum
suc-add : (m n : ℕ) → suc m + n ≡ suc (m + n)
suc-add m n = omega arith

-- how many packets were made on a link
abbrev size : Link → ℕ
size link = length link.down + length link.up

-- there are as many links, and no fewer packets
pub record Grows (old new : World) : Type 0 where
  pub links : length new.links ≡ length old.links
  pub packets : packet_count old.links ≤ packet_count new.links

-- a world grows over two steps if it does over each
grows_on : (u v w : World) → Grows u v → Grows v w → Grows u w
grows_on u v w first next = record { links = next.links ∙ first.links; packets = omega (arith, first.packets, next.packets) }

module _ (w : World) (c : ℕ) (there : c < length w.links) where
  -- with another link in the place of one, the count of packets changes by that one
  count_set : (link : Link) → packet_count (set w.links c link) + size (link_at w c) ≡ packet_count w.links + size link
  count_set link = sum_by-set size w.links c link new_link there

  -- a link with no fewer packets takes its place
  grows_link : (link : Link) → size (link_at w c) ≤ size link → Grows w (with_link w c link)
  grows_link link more = record { links = length-set w.links c link; packets = omega (arith, more, count_set link) }

  -- nothing happens
  stays : Grows w w
  stays = record { links = refl; packets = omega arith }

  -- an end that sends changes no packet
  same_size : (way : Way) (link : Link) (end : SendingEnd) → size (with_end way link end) ≡ size link
  same_size ways.Down link end = refl
  same_size ways.Up link end = refl

  -- one packet more is one more
  more_size : (way : Way) (link : Link) (packet : Packet) → size (with_packet way link packet) ≡ size link + 1
  more_size ways.Down link packet = omega (arith, length-append link.down (packet ∷ []))
  more_size ways.Up link packet = omega (arith, length-append link.up (packet ∷ []))

  -- an acknowledgement is made, or none can be
  grows_acknowledged : (way : Way) → Grows w (step_of_acknowledging way w c).0
  grows_acknowledged way =
      let ack = ack_packet way c (received_count way w c) in
      choice (Grows w) (is_packets_full w.links) _ _ (λ _. stays)
      (λ _. grows_link _ (omega (arith, more_size (back_way way) (link_at w c) ack)))

  -- an acknowledgement is heard
  grows_heard : (way : Way) (count : ℕ) → Grows w (step_of_hearing way w c count).0
  grows_heard way count =
      let end = end_that_heard (end_on way (link_at w c)) count (front_of way w c) in
      grows_link _ (omega (arith, same_size way (link_at w c) end))

  -- a packet is made
  grows_sent : (way : Way) (index : ℕ) → packet_in (step_of_sending way w c).1 ≡ Some index
      → (packet_count w.links < MAX_PACKETS) × (packet_count (step_of_sending way w c).0.links ≡ packet_count w.links + 1)
      × (length (step_of_sending way w c).0.links ≡ length w.links)
  grows_sent way index made = full (is_packets_full w.links) refl made
    where
      pack : (number : ℕ) (found : Option Packet) → packet_in (step_of_packing way w c number found).1 ≡ Some index
          → (packet_count (step_of_packing way w c number found).0.links ≡ packet_count w.links + 1)
          × (length (step_of_packing way w c number found).0.links ≡ length w.links)
      pack number None none = absurd cc
      pack number (Some packet) some =
          let link = with_packet way (link_at w c) packet in
          let sent = with_sent way (link_at w c) (front_of way w c) packet in (
            omega (
              arith,
              count_set sent,
              more_size way (link_at w c) packet,
              same_size way link (end_after (end_on way link) (front_of way w c)),
            ),
            length-set w.links c sent,
          )

      numbered : (number : Option ℕ) → packet_in (step_of_number way w c number).1 ≡ Some index
          → (packet_count (step_of_number way w c number).0.links ≡ packet_count w.links + 1)
          × (length (step_of_number way w c number).0.links ≡ length w.links)
      numbered None none = absurd cc
      numbered (Some number) some = pack number (packet_for way w c number) some

      full : (b : Bool) → is_packets_full w.links ≡ b
          → (let step = cond b (w, outcomes.PacketsFull) (step_of_number way w c (next_number_on way w c)) in
          packet_in step.1 ≡ Some index → (packet_count w.links < MAX_PACKETS) × (packet_count step.0.links ≡ packet_count w.links + 1)
          × (length step.0.links ≡ length w.links))
      full true is none = absurd cc
      full false is some =
          let room = leb-false MAX_PACKETS (packet_count w.links) is in
          let next = numbered (next_number_on way w c) some in
          (omega (arith, room), next.0, next.1)

-- an answer makes no packet go
grows_answered : (way : Way) (w : World) (c number : ℕ) (how : Arrival) → c < length w.links → Grows w (step_of_answer way w c number how).0
grows_answered way w c number arrivals.Taken there = grows_acknowledged w c there way
grows_answered way w c number arrivals.Old there = grows_acknowledged w c there way
grows_answered way w c number arrivals.Early there = grows_acknowledged w c there way
grows_answered way w c number arrivals.Full there = stays w c there

-- what arrives is answered in a world with the same links
grows_after : (way : Way) (w taken : World) (c number : ℕ) (how : Arrival) → c < length w.links → taken.links ≡ w.links
    → Grows w (step_of_answer way (world_after w taken how) c number how).0
grows_after way w taken c number arrivals.Taken there same =
    let more = grows_answered way taken c number arrivals.Taken (omega (arith, there, ap (λ (l : List Link). length l) same)) in record {
      links = more.links ∙ ap (λ (l : List Link). length l) same;
      packets = omega (arith, more.packets, ap (λ (l : List Link). packet_count l) same);
    }
grows_after way w taken c number arrivals.Old there same = grows_answered way w c number arrivals.Old there
grows_after way w taken c number arrivals.Early there same = grows_answered way w c number arrivals.Early there
grows_after way w taken c number arrivals.Full there same = grows_answered way w c number arrivals.Full there

module _ (w : World) (c : ℕ) (there : c < length w.links) where
  -- a packet arrives
  grows_arrived : (way : Way) (index : ℕ) → Grows w (step_of_arriving way w c index).0
  grows_arrived way index = by (slice_get (packets_on way (link_at w c)) index)
    where
      of_packet : (packet : Packet) → Grows w (step_of_packet w c packet).0
      of_packet (Down from number rec) = grows_after ways.Down w (with_next_at w c) c number (arrival_on ways.Down w c number) there refl
      of_packet (Up from number item) =
          grows_after ways.Up w (with_item_of w c number item) c number (arrival_on ways.Up w c number) there refl
      of_packet (DownHeard from count) = grows_heard w c there ways.Down count
      of_packet (UpHeard from count) = grows_heard w c there ways.Up count

      by : (found : Option Packet) → Grows w (step_of_found w c found).0
      by None = stays w c there
      by (Some packet) = of_packet packet

  -- an acknowledgement is taken back, if one was made
  grows_taken_back : (way : Way) (ack : Option ℕ) → Grows w (with_ack_back way w c ack)
  grows_taken_back way None = stays w c there
  grows_taken_back way (Some index) = grows_arrived (back_way way) index

module _ (w : World) (c : ℕ) (there : c < length w.links) (way : Way) where
  -- what arrives is a part of a round
  grows_brought : (index : ℕ) → Grows w (round_of_packet way w c index).0
  grows_brought index =
      let arrived = step_of_arriving way w c index in
      let first = grows_arrived w c there way index in
      grows_on w arrived.0 _ first (grows_taken_back arrived.0 c (omega (arith, first.links, there)) way (ack_in arrived.1))

module _ (w : World) (c : ℕ) (there : c < length w.links) (way : Way) where
  -- after a round whose packet was made there is less room for packets
  pub sent_takes_room : (index : ℕ) → packet_in (step_of_sending way w c).1 ≡ Some index
      → packet_room (round_of_packet way (step_of_sending way w c).0 c index).0.links < packet_room w.links
  sent_takes_room index is =
      let made = grows_sent w c there way index is in
      let more = grows_brought (step_of_sending way w c).0 c (omega (arith, made.2, there)) way index in
      omega (arith, made.0, made.1, more.packets)

  -- a round after which another may come leaves less room for packets, and as many links
  round_takes_room : GoesOn (step_of_round way w c).1
      → (packet_room (step_of_round way w c).0.links < packet_room w.links) × (length (step_of_round way w c).0.links ≡ length w.links)
  round_takes_room = sent (packet_in (step_of_sending way w c).1) refl
    where
      sent : (packet : Option ℕ) → packet_in (step_of_sending way w c).1 ≡ packet
          → GoesOn (round_of_send way (step_of_sending way w c).0 c (step_of_sending way w c).1 packet).1
          → (packet_room (round_of_send way (step_of_sending way w c).0 c (step_of_sending way w c).1 packet).0.links < packet_room w.links)
          × (length (round_of_send way (step_of_sending way w c).0 c (step_of_sending way w c).1 packet).0.links ≡ length w.links)
      sent None is none = absurd none
      sent (Some index) is on =
          let made = grows_sent w c there way index is in
          let more = grows_brought (step_of_sending way w c).0 c (omega (arith, made.2, there)) way index in
          (sent_takes_room index is, more.links ∙ made.2)

-- what comes after a round is the same if what comes after those that go on is
same_after : (one other : World → Way → Load → World × Outcome) (w : World) (way : Way) (load : Load) (round : Round)
    → (GoesOn round → (l : Load) → one w way l ≡ other w way l) → after_round one w way load round ≡ after_round other w way load round
same_after one other w way load rounds.Taken same = same tt (with_one way load)
same_after one other w way load rounds.Again same = same tt load
same_after one other w way load (rounds.Stopped outcome) same = refl

-- so are a round on the next way and what comes after it, or nothing if no way is left
same_on : (one other : World → Way → Load → World × Outcome) (w : World) (c : ℕ) → c < length w.links
    → ((v : World) (way : Way) (l : Load) → c < length v.links → packet_room v.links < packet_room w.links → one v way l ≡ other v way l)
    → (load : Load) (next : Option Way) → rounds_on one w c load next ≡ rounds_on other w c load next
same_on one other w c there same load None = refl
same_on one other w c there same load (Some way) =
    same_after one other (step_of_round way w c).0 way load (step_of_round way w c).1
    (λ on l. let less = round_takes_room w c there way on in
    same (step_of_round way w c).0 way l (omega (arith, less.1, there)) less.0)

-- with as many rounds as there is room for packets and one, more rounds change nothing
pub rounds_suffice : (more extra c : ℕ) (w : World) (way : Way) (load : Load) → c < length w.links → packet_room w.links < more
    → carry_rounds (more + extra) c w way load ≡ carry_rounds more c w way load
unfolding carry_rounds
rounds_suffice zero extra c w way load there room = absurd (omega (arith, room))
rounds_suffice (suc more) extra c w way load there room =
    ap (λ (n : ℕ). carry_rounds n c w way load) (suc-add more extra)
    ∙ same_on (carry_rounds (more + extra) c) (carry_rounds more c) w c there
    (λ v next l here less. rounds_suffice more extra c v next l here (omega (arith, less, room))) load (way_on way w c)

-- one more was taken, on either way
pub load_more : (way : Way) (load : Load) → (with_one way load).records + (with_one way load).items ≡ load.records + load.items + 1
load_more ways.Down load = omega arith
load_more ways.Up load = omega arith

-- ---- the rest of a carry

-- from a network that stands for the world so far, in which this much was taken, the last time on this way
pub record Rest (c : ℕ) (w : World) (way : Way) (load : Load) (now : State) : Type 0 where
  pub so_far : World
  pub more : ℕ
  pub stands : StandsFor now so_far
  pub room : packet_room so_far.links < more
  pub is : step_of_carry w c ≡ carry_rounds more c so_far way load

module _ (c : ℕ) (w : World) where
  -- before the first round
  pub rest_begins : (now : State) → StandsFor now w → Rest c w ways.Down no_load now
  rest_begins now stands = record { so_far = w; more = packet_room w.links + 1; stands = stands; room = omega arith; is = refl }

  -- once the way of the next round is known, there is a round on it, or the carry is done
  pub record NextRound (load : Load) (now : State) (next : Option Way) : Type 0 where
    pub so_far : World
    pub more : ℕ
    pub stands : StandsFor now so_far
    pub room : packet_room now.links ≤ more
    pub is : step_of_carry w c ≡ rounds_on (carry_rounds more c) so_far c load next

  pub next_round : (way : Way) (load : Load) (now : State) (next : Option Way) → Rest c w way load now
      → ((v : World) → StandsFor now v → next ≡ way_on way v c) → NextRound load now next
  unfolding carry_rounds
  next_round way load now next rest found = by rest.more rest.room rest.is
    where
      by : (more : ℕ) → packet_room rest.so_far.links < more → step_of_carry w c ≡ carry_rounds more c rest.so_far way load
          → NextRound load now next
      by zero room is = absurd (omega (arith, room))
      by (suc more) room is = record {
        so_far = rest.so_far;
        more = more;
        stands = rest.stands;
        room = omega (arith, room, ap (λ (s : List Link). packet_room s) rest.stands.links);
        is = is ∙ ap (rounds_on (carry_rounds more c) rest.so_far c load) (sym (found rest.so_far rest.stands));
      }

  -- after one round more the carry is what comes after that round
  pub record RoundDone (way : Way) (load : Load) (old new : State) (round : Round) : Type 0 where
    pub so_far : World
    pub more : ℕ
    pub stands : StandsFor new so_far
    pub room : packet_room old.links ≤ more
    pub is : step_of_carry w c ≡ after_round (carry_rounds more c) so_far way load round

  module _ (way : Way) (load : Load) (old new : State) where
    -- a round is done
    pub round_done : (round : Round) → NextRound load old (Some way) → Performs old new round (λ v. step_of_round way v c)
        → RoundDone way load old new round
    round_done round next performs =
        let done = performs next.so_far next.stands in
        record {
          so_far = (step_of_round way next.so_far c).0;
          more = next.more;
          stands = done.0;
          room = next.room;
          is = next.is ∙ ap (after_round (carry_rounds next.more c) (step_of_round way next.so_far c).0 way load) (sym done.1);
        }

    -- a round after which another may come leaves a rest
    rest_after : (now : Load) (so_far : World) (more : ℕ) → StandsFor new so_far → packet_room old.links ≤ more
        → packet_room new.links < packet_room old.links → step_of_carry w c ≡ carry_rounds more c so_far way now → Rest c w way now new
    rest_after now so_far more stands room less is = record {
      so_far = so_far;
      more = more;
      stands = stands;
      room = omega (arith, less, room, ap (λ (s : List Link). packet_room s) stands.links);
      is = is;
    }

    -- after something was taken, the rest has one more
    pub rest_after_taken : packet_room new.links < packet_room old.links → RoundDone way load old new rounds.Taken
        → Rest c w way (with_one way load) new
    rest_after_taken less d = rest_after (with_one way load) d.so_far d.more d.stands d.room less d.is

    -- after a round that took nothing, it has as much
    pub rest_after_again : packet_room new.links < packet_room old.links → RoundDone way load old new rounds.Again → Rest c w way load new
    rest_after_again less d = rest_after load d.so_far d.more d.stands d.room less d.is

-- the world and the outcome after the last round are those of the carry
pub carry_ends : (c : ℕ) (w v : World) (new : State) (outcome : Outcome) → StandsFor new v → step_of_carry w c ≡ (v, outcome)
    → StandsFor new (step_of_carry w c).0 × (outcome ≡ (step_of_carry w c).1)
carry_ends c w v new outcome stands is =
    (subst (λ (u : World). StandsFor new u) (sym (ap (λ (r : World × Outcome). r.0) is)) stands, sym (ap (λ (r : World × Outcome). r.1) is))
