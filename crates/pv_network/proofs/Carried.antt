-- A carry after which both ends are idle has brought every record to the centre, and every item of it to the Update Centre.
use Rattle.std.proofs.Common.{◌≡◌, ℕ, zero, suc, ◌≤◌, Bool, true, false, cond, ltb, length, Option, Some, None, refl, arith}
use Rattle.std.specs.Prelude.{is_some, slice_get}
use Rattle.std.proofs.lemmas.Bool.{ltb-false}
use Rattle.pv_edits.specs.Edits.{taken_of}
use Rattle.pv_link.specs.Sending.{SendingEnd, number_due, number_to_give}
use Rattle.pv_packet.specs.declared.packet.Packet.{Packet}
use Rattle.pv_packet.specs.declared.packet.Packet.TheVariants.{Down, Up, DownHeard, UpHeard}
use Rattle.pv_network.specs.declared.arrival.Arrival.{Arrival}
use Rattle.pv_network.specs.declared.arrival.Arrival.TheVariants as arrivals
use Rattle.pv_network.specs.declared.load.Load.{Load}
use Rattle.pv_network.specs.declared.outcome.Outcome.{Outcome}
use Rattle.pv_network.specs.declared.outcome.Outcome.TheVariants as outcomes
use Rattle.pv_network.specs.declared.round.Round.{Round}
use Rattle.pv_network.specs.declared.round.Round.TheVariants as rounds
use Rattle.pv_traffic.specs.declared.way.Way.{Way}
use Rattle.pv_traffic.specs.declared.way.Way.TheVariants as ways
use Rattle.pv_traffic.specs.Link.{is_packets_full, back_way, packets_on}
use Rattle.pv_network.specs.Sound.{IsSound}
use Rattle.pv_network.specs.Traffic.{front_of, received_count, packet_for, next_number_on, step_of_packing, step_of_number, step_of_sending, arrival_on, world_after, step_of_answer, with_next_at, with_item_of, step_of_packet, step_of_found, step_of_arriving, packet_in, round_by, round_of_send, step_of_round, with_one, way_on, after_round, rounds_on, carry_rounds}
use Rattle.pv_network.specs.World.{World, centre_at, link_at}
use Rattle.pv_network.proofs.Soundness.{sound_round}
use Rattle.pv_network.proofs.TakingUp.{taken_within}

-- all was received on a way
abbrev HasAll : World → ℕ → Way → Type 0
HasAll w c way = received_count way w c ≡ front_of way w c

-- and on the other
abbrev pub HasBoth : World → ℕ → Type 0
HasBoth w c = ((centre_at w c).applied ≡ length w.update.records) × (taken_of w.update.records c ≡ length (centre_at w c).calls.items)

-- an end that gives no number has heard of all
none_left : (end : SendingEnd) (count : ℕ) → is_some (number_to_give end count) ≡ false → count ≤ end.acknowledged
none_left end count = by (ltb end.acknowledged count) refl
  where
    by : (some : Bool) → ltb end.acknowledged count ≡ some → is_some (cond some (Some (number_due end count)) None) ≡ false
        → count ≤ end.acknowledged
    by true is none = absurd cc
    by false is none = ltb-false end.acknowledged count is

module _ (w : World) (c : ℕ) (sound : IsSound w) where
  -- on a way whose end gives no number all was received
  idle_has_all : (way : Way) → is_some (next_number_on way w c) ≡ false → HasAll w c way
  idle_has_all ways.Down idle =
      omega (arith, none_left (link_at w c).sending (length w.update.records) idle, (sound.links c).sending, sound.law.prefixes c)
  idle_has_all ways.Up idle =
      omega (
        arith,
        none_left (link_at w c).posting (length (centre_at w c).calls.items) idle,
        (sound.links c).posting,
        taken_within
            w.update.records c (centre_at w c).calls.items (sound.law.taken c),
      )

  both : (way : Way) → HasAll w c way → HasAll w c (back_way way) → HasBoth w c
  both ways.Down first second = (first, second)
  both ways.Up first second = (second, first)

  -- if there is no way for a round, all was received on both
  pub none_has_both : (way : Way) → way_on way w c ≡ None → HasBoth w c
  none_has_both way = by (is_some (next_number_on way w c)) (is_some (next_number_on (back_way way) w c)) refl refl
    where
      by : (one other : Bool) → is_some (next_number_on way w c) ≡ one → is_some (next_number_on (back_way way) w c) ≡ other
          → cond one (Some way) (cond other (Some (back_way way)) None) ≡ None → HasBoth w c
      by true other here there none = absurd cc
      by false true here there none = absurd cc
      by false false here there none = both way (idle_has_all way here) (idle_has_all (back_way way) there)

module _ (records items : ℕ) where
  -- a round is not stopped by a carry
  abbrev Stops : Round → Type 0
  Stops round = round ≡ rounds.Stopped (outcomes.Carried records items)

  -- a send is no carry
  send_stops_none : (way : Way) (w : World) (c : ℕ) → Stops (rounds.Stopped (step_of_sending way w c).1) → ⊥
  send_stops_none way w c = full (is_packets_full w.links)
    where
      pack : (way : Way) (number : ℕ) (found : Option Packet) → Stops (rounds.Stopped (step_of_packing way w c number found).1) → ⊥
      pack way number None is = cc
      pack ways.Down number (Some packet) is = cc
      pack ways.Up number (Some packet) is = cc

      numbered : (number : Option ℕ) → Stops (rounds.Stopped (step_of_number way w c number).1) → ⊥
      numbered None is = cc
      numbered (Some number) is = pack way number (packet_for way w c number) is

      full : (b : Bool) → Stops (rounds.Stopped (cond b (w, outcomes.PacketsFull) (step_of_number way w c (next_number_on way w c))).1) → ⊥
      full true is = cc
      full false is = numbered (next_number_on way w c) is

  -- nor is what arrives
  arrival_stops_none : (way : Way) (w : World) (c index : ℕ) → Stops (round_by (step_of_arriving way w c index).1) → ⊥
  arrival_stops_none way w c index = by (slice_get (packets_on way (link_at w c)) index)
    where
      answer : (way : Way) (v : World) (number : ℕ) (how : Arrival) → Stops (round_by (step_of_answer way v c number how).1) → ⊥
      answer way v number arrivals.Taken is = cc
      answer way v number arrivals.Old is = cc
      answer way v number arrivals.Early is = cc
      answer way v number arrivals.Full is = cc

      packet_stops : (packet : Packet) → Stops (round_by (step_of_packet w c packet).1) → ⊥
      packet_stops (Down from number rec) is =
          answer ways.Down (world_after w (with_next_at w c) (arrival_on ways.Down w c number)) number _ is
      packet_stops (Up from number item) is =
          answer ways.Up (world_after w (with_item_of w c number item) (arrival_on ways.Up w c number)) number _ is
      packet_stops (DownHeard from count) is = cc
      packet_stops (UpHeard from count) is = cc

      by : (found : Option Packet) → Stops (round_by (step_of_found w c found).1) → ⊥
      by None is = cc
      by (Some packet) is = packet_stops packet is

  round_stops_none : (way : Way) (w : World) (c : ℕ) → Stops (step_of_round way w c).1 → ⊥
  round_stops_none way w c = sent (packet_in (step_of_sending way w c).1)
    where
      sent : (packet : Option ℕ) → Stops (round_of_send way (step_of_sending way w c).0 c (step_of_sending way w c).1 packet).1 → ⊥
      sent None is = send_stops_none way w c is
      sent (Some index) is = arrival_stops_none way (step_of_sending way w c).0 c index is

  -- after a round all was received if it is after those that come
  all_after : (c : ℕ) (more : World → Way → Load → World × Outcome) (w : World) (way : Way) (load : Load) (round : Round)
      → ((l : Load) → (more w way l).1 ≡ outcomes.Carried records items → HasBoth (more w way l).0 c) → (Stops round → ⊥)
      → (after_round more w way load round).1 ≡ outcomes.Carried records items → HasBoth (after_round more w way load round).0 c
  all_after c more w way load rounds.Taken later none is = later (with_one way load) is
  all_after c more w way load rounds.Again later none is = later load is
  all_after c more w way load (rounds.Stopped outcome) later none is = absurd (none cc)

  -- so it is after a round on a way and those that come; and if there is no round
  both_on : (c : ℕ) (more : World → Way → Load → World × Outcome)
      → ((v : World) (way : Way) (l : Load) → IsSound v → (more v way l).1 ≡ outcomes.Carried records items → HasBoth (more v way l).0 c)
      → (w : World) (way : Way) (load : Load) (next : Option Way) → IsSound w → way_on way w c ≡ next
      → (rounds_on more w c load next).1 ≡ outcomes.Carried records items → HasBoth (rounds_on more w c load next).0 c
  both_on c more later w way load None sound none is = none_has_both w c sound way none
  both_on c more later w way load (Some next) sound some is =
      all_after c more (step_of_round next w c).0 next load (step_of_round next w c).1
      (λ l carried. later (step_of_round next w c).0 next l (sound_round next w c sound) carried) (round_stops_none next w c) is

  -- after all rounds it is
  pub carried_has_both : (c more : ℕ) (w : World) (way : Way) (load : Load) → IsSound w
      → (carry_rounds more c w way load).1 ≡ outcomes.Carried records items → HasBoth (carry_rounds more c w way load).0 c
  unfolding carry_rounds
  carried_has_both c zero w way load sound is = absurd cc
  carried_has_both c (suc more) w way load sound is =
      both_on c (carry_rounds more c) (λ v next l here carried. carried_has_both c more v next l here carried) w way load
      (way_on way w c) sound
      refl is
