-- What an event at no port leaves of the calls, and what an event at one port leaves of another.
use Rattle.std.proofs.Common.{◌≡◌, ℕ, zero, suc, List, [], ◌∷◌, get_or, set, Option, Some, None, refl, sym, ap, ◌∙◌}
use Rattle.std.specs.Prelude.{slice_get}
use Rattle.pv_packet.specs.declared.packet.Packet.{Packet}
use Rattle.pv_packet.specs.declared.packet.Packet.TheVariants.{Down, Up, DownHeard, UpHeard}
use Rattle.pv_edits.specs.declared.record.Record.{Record}
use Rattle.pv_edits.specs.declared.wish.EditWish.{EditWish}
use Rattle.pv_editor.specs.declared.line.EditLine.{EditLine}
use Rattle.pv_editor.specs.declared.replies.UdcReplyView.{UdcReplyView}
use Rattle.pv_editor.specs.declared.replies.UdcReplyView.TheVariants as told
use Rattle.pv_editor.specs.declared.step.EditStep.{EditStep}
use Rattle.pv_editor.specs.declared.step.EditStep.TheVariants as said
use Rattle.pv_network.specs.declared.arrival.Arrival.{Arrival}
use Rattle.pv_network.specs.declared.arrival.Arrival.TheVariants as arrivals
use Rattle.pv_network.specs.declared.load.Load.{Load}
use Rattle.pv_traffic.specs.declared.way.Way.{Way}
use Rattle.pv_traffic.specs.declared.way.Way.TheVariants as ways
use Rattle.pv_network.specs.declared.event.TheConstants.{PORTS}
use Rattle.pv_network.specs.declared.outcome.BillLine.{BillLine}
use Rattle.pv_network.specs.declared.outcome.Outcome.{Outcome}
use Rattle.pv_network.specs.declared.round.Round.{Round}
use Rattle.pv_network.specs.declared.round.Round.TheVariants as rounds
use Rattle.pv_network.specs.Call.{Call}
use Rattle.pv_network.specs.Calling.{calls_at, call_at, with_calls}
use Rattle.pv_network.specs.Calls.{Calls, call_in, with_call}
use Rattle.pv_network.specs.Centre.{Centre, new_centre}
use Rattle.pv_network.specs.Crashing.{without_calls, step_of_centre_crash}
use Rattle.pv_traffic.specs.Link.{is_packets_full, back_way, packets_on}
use Rattle.pv_network.specs.Editing.{step_of_request, step_of_line, step_of_said, step_of_edit}
use Rattle.pv_network.specs.Traffic.{packet_for, next_number_on, step_of_packing, step_of_number, step_of_sending, step_of_acknowledging, arrival_on, world_after, step_of_answer, with_next_at, with_item_of, step_of_packet, step_of_found, step_of_arriving, ack_in, with_ack_back, round_of_send, step_of_round, with_one, way_on, after_round, rounds_on, carry_rounds}
use Rattle.pv_network.specs.Verdict.{verdict_of}
use Rattle.pv_network.specs.World.{World, StoppedCall, centre_at, link_at, with_edit, with_receipt}
use Rattle.pv_network.proofs.Lists.{set_at}
use Rattle.pv_network.proofs.Soundness.{choice, copy_at}
use Rattle.pv_udc.specs.declared.request.UdcRequest.TheVariants.{Edit}

-- ---- events at no port

-- what there is of a centre's calls, what callers were shown, and which calls were stopped
pub record Books : Type 0 where
  pub calls : Calls
  pub shown : List BillLine
  pub stopped : List StoppedCall

abbrev pub books_at : World → ℕ → Books
books_at w c = record { calls = calls_at w c; shown = w.shown; stopped = w.stopped }

module _ (c : ℕ) where
  -- all this is the same in both
  abbrev Same : World → World → Type 0
  Same w v = books_at v c ≡ books_at w c

  edit_same : (w : World) (stored : Option Record) → Same w (with_edit w stored)
  edit_same w None = refl
  edit_same w (Some edit) = refl

  receipt_same : (w : World) (editor q : ℕ) (reply : UdcReplyView) → Same w (with_receipt w editor q reply)
  receipt_same w editor q (told.Stored place) = refl
  receipt_same w editor q (told.Refused code shown) = refl

  pub request_same : (w : World) (editor q : ℕ) (wish : EditWish) → Same w (step_of_request w editor q wish).0
  request_same w editor q wish =
      let verdict = verdict_of w.update (Edit editor q wish) in
      receipt_same (with_edit w verdict.stored) editor q verdict.reply ∙ edit_same w verdict.stored

  said_same : (w : World) (port : ℕ) (step : EditStep) → Same w (step_of_said w port step).0
  said_same w port (said.Say text) = refl
  said_same w port (said.Ask editor q wish) = request_same w editor q wish
  said_same w port (said.Responses editor from) = refl
  said_same w port said.Close = refl

  pub line_same : (w : World) (port : ℕ) (line : Option EditLine) → Same w (step_of_edit w port line).0
  line_same w port line = said_same (step_of_line w port line).0 port (step_of_line w port line).1

  pub sending_same : (way : Way) (w : World) (d : ℕ) → Same w (step_of_sending way w d).0
  sending_same way w d = choice (Same w) (is_packets_full w.links) _ _ (λ _. refl) (λ _. by (next_number_on way w d))
    where
      pack : (number : ℕ) (found : Option Packet) → Same w (step_of_packing way w d number found).0
      pack number None = refl
      pack number (Some packet) = refl

      by : (number : Option ℕ) → Same w (step_of_number way w d number).0
      by None = refl
      by (Some number) = pack number (packet_for way w d number)

  acknowledging_same : (way : Way) (w : World) (d : ℕ) → Same w (step_of_acknowledging way w d).0
  acknowledging_same way w d = choice (Same w) (is_packets_full w.links) _ _ (λ _. refl) (λ _. refl)

  -- what arrives is answered, after which the calls are those before if taking it leaves them
  answer_same : (way : Way) (w taken : World) (d number : ℕ) (how : Arrival) → Same w taken
      → Same w (step_of_answer way (world_after w taken how) d number how).0
  answer_same way w taken d number arrivals.Taken same = acknowledging_same way taken d ∙ same
  answer_same way w taken d number arrivals.Old same = acknowledging_same way w d
  answer_same way w taken d number arrivals.Early same = acknowledging_same way w d
  answer_same way w taken d number arrivals.Full same = refl

  -- a centre that applies a record keeps its calls
  pub next_same : (w : World) (d : ℕ) → Same w (with_next_at w d)
  next_same w d =
      ap (λ (calls : Calls). record { calls = calls; shown = w.shown; stopped = w.stopped })
      (set_at (λ k centre. centre.calls ≡ calls_at w k) w.centres d (record (centre_at w d) { applied = _ }) new_centre (λ k. refl) refl c)

  pub arriving_same : (way : Way) (w : World) (d index : ℕ) → Same w (step_of_arriving way w d index).0
  arriving_same way w d index = by (slice_get (packets_on way (link_at w d)) index)
    where
      of_packet : (packet : Packet) → Same w (step_of_packet w d packet).0
      of_packet (Down from number rec) =
          answer_same ways.Down w (with_next_at w d) d number (arrival_on ways.Down w d number) (next_same w d)
      of_packet (Up from number item) = answer_same ways.Up w (with_item_of w d number item) d number (arrival_on ways.Up w d number) refl
      of_packet (DownHeard from count) = refl
      of_packet (UpHeard from count) = refl

      by : (found : Option Packet) → Same w (step_of_found w d found).0
      by None = refl
      by (Some packet) = of_packet packet

  ack_same : (way : Way) (w : World) (d : ℕ) (ack : Option ℕ) → Same w (with_ack_back way w d ack)
  ack_same way w d None = refl
  ack_same way w d (Some index) = arriving_same (back_way way) w d index

  round_same : (way : Way) (w : World) (d : ℕ) → Same w (step_of_round way w d).0
  round_same way w d = sent (step_of_sending way w d).0 (step_of_sending way w d).1 _ ∙ sending_same way w d
    where
      sent : (v : World) (outcome : Outcome) (packet : Option ℕ) → Same v (round_of_send way v d outcome packet).0
      sent v outcome None = refl
      sent v outcome (Some index) =
          ack_same way (step_of_arriving way v d index).0 d (ack_in (step_of_arriving way v d index).1) ∙ arriving_same way v d index

  after_round_same : (more : World → Way → Load → World × Outcome) → ((v : World) (way : Way) (load : Load) → Same v (more v way load).0)
      → (w : World) (way : Way) (load : Load) (round : Round) → Same w (after_round more w way load round).0
  after_round_same more keeps w way load rounds.Taken = keeps w way (with_one way load)
  after_round_same more keeps w way load rounds.Again = keeps w way load
  after_round_same more keeps w way load (rounds.Stopped outcome) = refl

  rounds_on_same : (more : World → Way → Load → World × Outcome) → ((v : World) (way : Way) (load : Load) → Same v (more v way load).0)
      → (w : World) (d : ℕ) (load : Load) (next : Option Way) → Same w (rounds_on more w d load next).0
  rounds_on_same more keeps w d load None = refl
  rounds_on_same more keeps w d load (Some way) =
      after_round_same more keeps (step_of_round way w d).0 way load (step_of_round way w d).1 ∙ round_same way w d

  pub rounds_same : (more d : ℕ) (w : World) (way : Way) (load : Load) → Same w (carry_rounds more d w way load).0
  unfolding carry_rounds
  rounds_same zero d w way load = refl
  rounds_same (suc more) d w way load = rounds_on_same (carry_rounds more d) (rounds_same more d) w d load (way_on way w d)

-- ---- events at a port

-- another call at a port leaves that of another port
pub call_elsewhere : (w : World) (c p centre port : ℕ) (call : Option Call) (new : Calls) → (centre ≡ c → port ≡ p → ⊥)
    → (new.ports ≡ set (calls_at w centre).ports port call) → call_at (with_calls w centre new) c p ≡ call_at w c p
call_elsewhere w c p centre port call new other is =
    set_at (λ k there. k ≡ c → call_in there.calls p ≡ call_at w c p) w.centres centre
    (record (centre_at w centre) { calls = new }) new_centre
    (λ k same. ap (λ (n : ℕ). call_at w n p) same) here c refl
  where
    here : centre ≡ c → call_in new p ≡ call_at w c p
    here same =
        ap (λ (ports : List (Option Call)). get_or ports p None) is
        ∙ set_at (λ k there. k ≡ p → there ≡ call_at w centre p) (calls_at w centre).ports port call None
        (λ k at. ap (λ (n : ℕ). get_or (calls_at w centre).ports n None) at) (λ at. absurd (other same at)) p refl
        ∙ ap (λ (n : ℕ). call_at w n p) same

-- a crash of a centre leaves the calls of another
pub calls_elsewhere : (w : World) (c p centre : ℕ) → (centre ≡ c → ⊥) → call_at (step_of_centre_crash w centre).0 c p ≡ call_at w c p
calls_elsewhere w c p centre other =
    set_at (λ k there. k ≡ c → call_in there.calls p ≡ call_at w c p) w.centres centre
    (record (centre_at w centre) { calls = without_calls (calls_at w centre) }) new_centre
    (λ k same. ap (λ (n : ℕ). call_at w n p) same) (λ same. absurd (other same)) c refl

-- what holds of another element and of the default is so where that one is put
put_or : {X : Type 0} (P : X → Type 0) (xs : List X) (i : ℕ) (x d : X) → P x → P d → P (get_or (set xs i x) i d)
put_or P [] i x d here none = none
put_or P (y ∷ xs) zero x d here none = here
put_or P (y ∷ xs) (suc i) x d here none = put_or P xs i x d here none

-- after a crash of a centre no call is at its ports
pub none_left : (w : World) (c p : ℕ) → call_at (step_of_centre_crash w c).0 c p ≡ None
none_left w c p =
    put_or (λ (centre : Centre). call_in centre.calls p ≡ None) w.centres c
    (record (centre_at w c) { calls = without_calls (calls_at w c) }) new_centre (copy_at {X = Option Call} None PORTS p)
    (copy_at {X = Option Call} None PORTS p)

-- an element that differs from the default is there, and another takes its place
read_set : {X : Type 0} (P : X → Type 0) (xs : List X) (i : ℕ) (x d : X) → (P d → ⊥) → P (get_or xs i d) → get_or (set xs i x) i d ≡ x
read_set P [] i x d never is = absurd (never is)
read_set P (y ∷ xs) zero x d never is = refl
read_set P (y ∷ xs) (suc i) x d never is = read_set P xs i x d never is

-- a port with a call is one of a centre's
module _ (w : World) (c p : ℕ) (call : Call) (is : call_at w c p ≡ Some call) where
  -- other calls at the centre are read there
  pub calls_here : (new : Calls) → call_at (with_calls w c new) c p ≡ call_in new p
  calls_here new = ap (λ (centre : Centre). call_in centre.calls p)
      (read_set (λ centre. call_in centre.calls p ≡ Some call) w.centres c (record (centre_at w c) { calls = new }) new_centre
      (λ there. let none = copy_at {X = Option Call} None PORTS p in absurd (none_some (sym none ∙ there))) is)
    where
      none_some : None ≡ Some call → ⊥
      none_some never = absurd cc

  -- another call at the port is read there
  pub call_here : (new : Option Call) → call_in (with_call (calls_at w c) p new) p ≡ new
  call_here new = read_set (λ there. there ≡ Some call) (calls_at w c).ports p new None (λ never. absurd cc) is
