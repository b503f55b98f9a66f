-- Only a seed and an editor's line are answered by a reply. It stands on one row, and begins with a capital letter.
use Rattle.std.proofs.Common.{ℕ, zero, suc, Bool, true, false, cond, List, [], ◌∷◌, Option, Some, None, Result, Ok, Err, sym, subst}
use Rattle.std.specs.Prelude.{All, IfOk, slice_get}
use Rattle.pv_page.specs.Names.{Name}
use Rattle.pv_frame.specs.Content.{Content}
use Rattle.pv_edits.specs.Edits.{frame_at}
use Rattle.pv_edits.specs.Record.{IsRecord}
use Rattle.pv_packet.specs.declared.packet.Packet.{Packet}
use Rattle.pv_packet.specs.declared.packet.Packet.TheVariants as packets
use Rattle.pv_session.specs.declared.entry.Entry.{Entry}
use Rattle.pv_session.specs.declared.step.Paid.{Paid}
use Rattle.pv_session.specs.declared.step.Step.{Step}
use Rattle.pv_session.specs.declared.step.Step.TheVariants as steps
use Rattle.pv_session.specs.declared.step.Wish.{Wish}
use Rattle.pv_udc.specs.EditList.{EditList, all_places}
use Rattle.pv_network.specs.declared.arrival.Arrival.{Arrival}
use Rattle.pv_network.specs.declared.arrival.Arrival.TheVariants as arrivals
use Rattle.pv_network.specs.declared.event.Event.{Event}
use Rattle.pv_network.specs.declared.event.Event.TheVariants as events
use Rattle.pv_network.specs.declared.event.NodeName.{NodeName}
use Rattle.pv_network.specs.declared.event.NodeName.TheVariants as nodes
use Rattle.pv_network.specs.declared.load.Load.{Load}
use Rattle.pv_network.specs.declared.outcome.Outcome.{Outcome}
use Rattle.pv_network.specs.declared.outcome.Outcome.TheVariants as outcomes
use Rattle.pv_network.specs.declared.outcome.Turn.{Turn}
use Rattle.pv_network.specs.declared.round.Round.{Round}
use Rattle.pv_network.specs.declared.round.Round.TheVariants as rounds
use Rattle.pv_traffic.specs.declared.way.Way.{Way}
use Rattle.pv_traffic.specs.declared.way.Way.TheVariants as ways
use Rattle.pv_network.specs.Call.{Call, is_waiting, wish_to_store}
use Rattle.pv_network.specs.Calling.{calls_at, call_at, view_at, holdings_at}
use Rattle.pv_network.specs.Calls.{Calls, Holdings, step_answer, dial_at, hang_at, press_at, away_answer, lacks_room, storing_unless, storing_at, store_at, showing_at, show_at}
use Rattle.pv_network.specs.Cutting.{node_of, stored_world, step_of_stop}
use Rattle.pv_network.specs.Editing.{seed_request, step_of_line}
use Rattle.pv_network.specs.Keying.{KeyedByte, turns_answer, keys_refusal, step_of_taken_keys, keys_from}
use Rattle.pv_traffic.specs.Link.{is_packets_full, packets_on}
use Rattle.pv_network.specs.Standing.{State, StandsFor, IsStanding, TakesPlace}
use Rattle.pv_network.specs.Step.{Choice, view_answer, happens}
use Rattle.pv_network.specs.Traffic.{packet_for, next_number_on, sent_answer, step_of_packing, step_of_number, step_of_sending, arrival_on, world_after, with_next_at, with_item_of, step_of_answer, step_of_packet, step_of_found, step_of_arriving, packet_in, round_by, round_of_send, step_of_round, way_on, after_round, rounds_on, carry_rounds}
use Rattle.pv_udc.specs.declared.request.UdcRequest.TheVariants.{Edit}
use Rattle.pv_network.specs.Verdict.{verdict_of}
use Rattle.pv_network.specs.World.{World, seat_at, link_at, page_base}
use Rattle.pv_network.specs.Replies.{RepliesByLine}
use Rattle.pv_network.proofs.ReplyLines.{turn_is_line, said_line, verdict_line}

-- one of two answers
one_of : {A : Type 0} (b : Bool) (x y : A × Outcome) → RepliesByLine x.1 → RepliesByLine y.1 → RepliesByLine (cond b x y).1
one_of true x y p q = p
one_of false x y p q = q

-- ---- calls

step_answered : (step : Step) → RepliesByLine (step_answer step)
step_answered steps.Quiet = tt
step_answered (steps.Show screen) = tt
step_answered (steps.Owe wish) = tt
step_answered (steps.Ended why screen) = tt

dial_answered : (calls : Calls) (port : ℕ) (call : Option Call) → RepliesByLine (dial_at calls port call).1
dial_answered calls port None = tt
dial_answered calls port (Some call) = tt

hang_answered : (calls : Calls) (port : ℕ) (call : Option Call) → RepliesByLine (hang_at calls port call).1
hang_answered calls port None = tt
hang_answered calls port (Some call) = tt

module _ (w : World) (c port key : ℕ) (entry : Option Entry) where
  press_answered : (call : Option Call) → RepliesByLine (press_at (calls_at w c) port key (view_at w c port) w.moment entry call).1
  press_answered None = tt
  press_answered (Some call) = one_of (is_waiting call) _ _ tt (step_answered _)

away_answered : (count : ℕ) (step : Step) → RepliesByLine (away_answer count step)
away_answered count steps.Quiet = tt
away_answered count (steps.Show screen) = tt
away_answered count (steps.Owe wish) = tt
away_answered count (steps.Ended why screen) = tt

module _ (holdings : Holdings) (calls : Calls) (port : ℕ) where
  unless_answered : (refused : Bool) (call : Call) (wish : Wish) → RepliesByLine (storing_unless refused holdings calls port call wish).1
  unless_answered true call wish = away_answered holdings.count _
  unless_answered false call wish = tt

  storing_answered : (call : Call) (wish : Option Wish) → RepliesByLine (storing_at holdings calls port call wish).1
  storing_answered call None = tt
  storing_answered call (Some wish) = unless_answered (lacks_room holdings wish) call wish

  store_answered : (call : Option Call) → RepliesByLine (store_at holdings calls port call).1
  store_answered None = tt
  store_answered (Some call) = storing_answered call (wish_to_store call)

module _ (calls : Calls) (port : ℕ) where
  showing_answered : (call : Call) (reply : Option Paid) → RepliesByLine (showing_at calls port call.seat reply).1
  showing_answered call None = tt
  showing_answered call (Some reply) = step_answered _

  show_answered : (call : Option Call) → RepliesByLine (show_at calls port call).1
  show_answered None = tt
  show_answered (Some call) = showing_answered call call.stored

turns_answered : (turns : List Turn) → RepliesByLine (turns_answer turns)
turns_answered [] = tt
turns_answered (turn ∷ turns) = tt

keys_answered : (w : World) (c port : ℕ) (keys : List KeyedByte) (call : Option Call)
    → RepliesByLine (step_of_taken_keys w c port keys (keys_refusal call)).1
keys_answered w c port keys None = tt
keys_answered w c port keys (Some call) = by (is_waiting call)
  where
    by : (b : Bool) → RepliesByLine (step_of_taken_keys w c port keys (cond b (Some outcomes.Owing) None)).1
    by true = tt
    by false = turns_answered (keys_from w c port keys).1

-- ---- packets

sent_answered : (way : Way) (index number : ℕ) → RepliesByLine (sent_answer way index number)
sent_answered ways.Down index number = tt
sent_answered ways.Up index number = tt

packing_answered : (way : Way) (w : World) (c number : ℕ) (packet : Option Packet) → RepliesByLine (step_of_packing way w c number packet).1
packing_answered way w c number None = tt
packing_answered way w c number (Some packet) = sent_answered way _ number

number_answered : (way : Way) (w : World) (c : ℕ) (number : Option ℕ) → RepliesByLine (step_of_number way w c number).1
number_answered way w c None = tt
number_answered way w c (Some number) = packing_answered way w c number (packet_for way w c number)

sending_answered : (way : Way) (w : World) (c : ℕ) → RepliesByLine (step_of_sending way w c).1
sending_answered way w c = one_of (is_packets_full w.links) _ _ tt (number_answered way w c (next_number_on way w c))

-- a round that stops does so with an answer that is none of an editor
abbrev RoundRepliesByLine : Round → Type 0
RoundRepliesByLine rounds.Taken = Unit {0}
RoundRepliesByLine rounds.Again = Unit {0}
RoundRepliesByLine (rounds.Stopped outcome) = RepliesByLine outcome

-- the answer to an arrival is none, and a round that stops with it does not either
abbrev Arrives : Outcome → Type 0
Arrives outcome = RepliesByLine outcome × RoundRepliesByLine (round_by outcome)

answer_arrives : (way : Way) (w : World) (c number : ℕ) (how : Arrival) → Arrives (step_of_answer way w c number how).1
answer_arrives way w c number arrivals.Taken = (tt, tt)
answer_arrives way w c number arrivals.Old = (tt, tt)
answer_arrives way w c number arrivals.Early = (tt, tt)
answer_arrives way w c number arrivals.Full = (tt, tt)

packet_arrives : (w : World) (c : ℕ) (packet : Packet) → Arrives (step_of_packet w c packet).1
packet_arrives w c (packets.Down from number rec) =
    let how = arrival_on ways.Down w c number in answer_arrives ways.Down (world_after w (with_next_at w c) how) c number how
packet_arrives w c (packets.Up from number item) =
    let how = arrival_on ways.Up w c number in answer_arrives ways.Up (world_after w (with_item_of w c number item) how) c number how
packet_arrives w c (packets.DownHeard from count) = (tt, tt)
packet_arrives w c (packets.UpHeard from count) = (tt, tt)

found_arrives : (w : World) (c : ℕ) (packet : Option Packet) → Arrives (step_of_found w c packet).1
found_arrives w c None = (tt, tt)
found_arrives w c (Some packet) = packet_arrives w c packet

arriving : (way : Way) (w : World) (c index : ℕ) → Arrives (step_of_arriving way w c index).1
arriving way w c index = found_arrives w c (slice_get (packets_on way (link_at w c)) index)

sent_round : (way : Way) (v : World) (c : ℕ) (sent : Outcome) (index : Option ℕ) → RepliesByLine sent
    → RoundRepliesByLine (round_of_send way v c sent index).1
sent_round way v c sent None is = is
sent_round way v c sent (Some index) is = (arriving way v c index).1

round_answered : (way : Way) (w : World) (c : ℕ) → RoundRepliesByLine (step_of_round way w c).1
round_answered way w c =
    let sent = step_of_sending way w c in sent_round way sent.0 c sent.1 (packet_in sent.1) (sending_answered way w c)

after_answered : (more : World → Way → Load → World × Outcome) → ((v : World) (way : Way) (load : Load) → RepliesByLine (more v way load).1)
    → (v : World) (way : Way) (load : Load) (round : Round) → RoundRepliesByLine round → RepliesByLine (after_round more v way load round).1
after_answered more each v way load rounds.Taken is = each v way _
after_answered more each v way load rounds.Again is = each v way load
after_answered more each v way load (rounds.Stopped outcome) is = is

way_answered : (more : World → Way → Load → World × Outcome) → ((v : World) (way : Way) (load : Load) → RepliesByLine (more v way load).1)
    → (w : World) (c : ℕ) (load : Load) (next : Option Way) → RepliesByLine (rounds_on more w c load next).1
way_answered more each w c load None = tt
way_answered more each w c load (Some way) = after_answered more each _ way load (step_of_round way w c).1 (round_answered way w c)

rounds_answered : (k c : ℕ) (w : World) (way : Way) (load : Load) → RepliesByLine (carry_rounds k c w way load).1
unfolding carry_rounds
rounds_answered zero c w way load = tt
rounds_answered (suc k) c w way load = way_answered (carry_rounds k c) (rounds_answered k c) w c load (way_on way w c)

-- ---- all events

stop_answered : (w : World) (node : NodeName) (stored : Option World) (kept : Bool) → RepliesByLine (step_of_stop w node stored kept).1
stop_answered w node None kept = tt
stop_answered w node (Some stored) true = tt
stop_answered w node (Some stored) false = tt

view_answered : (name : Name) (frame : Option Content) → RepliesByLine (view_answer name frame)
view_answered name None = tt
view_answered name (Some frame) = tt

-- in a world whose edit list is valid
module _ (w : World) (all : All IsRecord w.update.records) where
  event_answered : (event : Event) (choice : Choice) → RepliesByLine (happens w event choice).1
  event_answered (events.Seed name row) choice =
      let asked = seed_request w name row in verdict_line (verdict_of w.update (Edit asked.0 asked.1 asked.2)).reply
  event_answered (events.Edit port line) choice =
      let turn = step_of_line w port choice.said in
      said_line turn.0 all port turn.1 (turn_is_line (seat_at w port) w.update.records (all_places w.update.records) choice.said)
  event_answered (events.Dial c port) choice = dial_answered (calls_at w c) port (call_at w c port)
  event_answered (events.Press c port key) choice = press_answered w c port key _ (call_at w c port)
  event_answered (events.Store c port) choice = store_answered (holdings_at w c) (calls_at w c) port (call_at w c port)
  event_answered (events.Show c port) choice = show_answered (calls_at w c) port (call_at w c port)
  event_answered (events.Keys c port keys) choice = keys_answered w c port choice.keyed (call_at w c port)
  event_answered (events.Hang c port) choice = hang_answered (calls_at w c) port (call_at w c port)
  event_answered (events.Send c) choice = sending_answered ways.Down w c
  event_answered (events.Post c) choice = sending_answered ways.Up w c
  event_answered (events.Deliver c index) choice = (arriving ways.Down w c index).0
  event_answered (events.Back c index) choice = (arriving ways.Up w c index).0
  event_answered (events.Carry c) choice = rounds_answered _ c w ways.Down _
  event_answered (events.Crash nodes.Udc) choice = tt
  event_answered (events.Crash (nodes.Centre c)) choice = tt
  event_answered (events.Cut calls image command) choice =
      stop_answered w (node_of command) (stored_world w command choice.said) choice.kept
  event_answered (events.Clock moment) choice = tt
  event_answered (events.View c name) choice = view_answered name (frame_at (page_base w c) name)
  event_answered (events.At c) choice = tt
  event_answered events.List choice = tt
  event_answered (events.Bill account) choice = tt
  event_answered (events.Lines c) choice = tt

-- what happens in a world that a network stands for is answered so
pub answered : (s : State) (w : World) → StandsFor s w → (event : Event) (choice : Choice) → RepliesByLine (happens w event choice).1
answered s w stands event choice =
    event_answered w (subst (λ (u : EditList). All IsRecord u.records) stands.update stands.on_disk.each) event choice

-- so does what takes place
pub answers_by_line : {E : Type 0} (old new : State) (event : Event) (result : Result Outcome E) → IsStanding old
    → IfOk result (TakesPlace event old new) → IfOk result RepliesByLine
answers_by_line old new event (Ok outcome) standing takes =
    let done = takes standing.0 standing.1 in
    subst RepliesByLine (sym done.3) (answered old standing.0 standing.1 event done.0)
answers_by_line old new event (Err error) standing takes = tt
