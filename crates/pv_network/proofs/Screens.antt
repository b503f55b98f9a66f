-- A call in the world goes on by the steps of its seat.
use Rattle.std.proofs.Common.{◌≡◌, ℕ, ◌+◌, ◌<◌, Bool, true, false, cond, List, [], ◌∷◌, ◌++◌, length, Option, Some, None, refl, sym, ap, subst, ◌∙◌, append_assoc, arith}
use Rattle.std.specs.Prelude.{IfSome, is_some, slice_get}
use Rattle.std.proofs.lemmas.Bool.Decides.{nat_tests}
use Rattle.std.proofs.lemmas.List.{append-nil, set-get_or, get_or-set_same}
use Rattle.pv_edits.specs.Sight.{View}
use Rattle.pv_edits.specs.declared.record.Record.{Record}
use Rattle.pv_editor.specs.declared.line.EditLine.{EditLine}
use Rattle.pv_fields.specs.Reading.{◌>>=◌}
use Rattle.pv_packet.specs.declared.packet.Packet.{Packet}
use Rattle.pv_packet.specs.declared.packet.Packet.TheVariants.{Down, Up, DownHeard, UpHeard}
use Rattle.pv_session.specs.Calls.{CallEvent, Keyed, Stored, Refused, Happens, AreSteps}
use Rattle.pv_session.specs.declared.entry.Entry.{Entry}
use Rattle.pv_session.specs.declared.step.Paid.{Paid}
use Rattle.pv_session.specs.declared.step.Phase.{Phase}
use Rattle.pv_session.specs.declared.step.Phase.TheVariants.{Listening, Owing, Over}
use Rattle.pv_session.specs.declared.step.Step.{Step}
use Rattle.pv_session.specs.declared.step.Step.TheVariants as steps
use Rattle.pv_session.specs.declared.message.Message.TheVariants.{KeyAccount}
use Rattle.pv_session.specs.Messages.{screen_of_blank}
use Rattle.pv_session.specs.declared.step.Wish.{Wish}
use Rattle.pv_session.specs.State.{CallState, wish_in}
use Rattle.pv_session.specs.Turns.{full_turn, storing_turn}
use Rattle.pv_network.specs.declared.event.Event.{Event}
use Rattle.pv_network.specs.declared.event.Event.TheVariants as events
use Rattle.pv_network.specs.declared.event.NodeName.{NodeName}
use Rattle.pv_network.specs.declared.event.NodeName.TheVariants as nodes
use Rattle.pv_network.specs.declared.storing.Storing.{Storing}
use Rattle.pv_network.specs.declared.storing.Storing.TheVariants as commands
use Rattle.pv_network.specs.declared.arrival.Arrival.{Arrival}
use Rattle.pv_network.specs.declared.arrival.Arrival.TheVariants as arrivals
use Rattle.pv_network.specs.declared.outcome.Outcome.{Outcome}
use Rattle.pv_network.specs.declared.outcome.Outcome.TheVariants as outcomes
use Rattle.pv_network.specs.declared.outcome.Turn.{Turn}
use Rattle.pv_network.specs.Call.{Call, first_call, is_waiting, wish_to_store, key_turn}
use Rattle.pv_network.specs.Calling.{calls_at, call_at, view_at, holdings_at, with_calls, step_of_dial, step_of_hang, step_of_press, step_of_store, step_of_show}
use Rattle.pv_network.specs.Calls.{Holdings, lacks_room, call_in, with_call, step_answer, call_after, turn_at, away_answer, with_wish, dial_at, hang_at, press_at, storing_unless, storing_at, store_at, showing_at, show_at, IsPortEntry, IsEntryUnlessWaiting}
use Rattle.pv_network.specs.Centre.{Centre, new_centre}
use Rattle.pv_network.specs.Crashing.{step_of_centre_crash, step_of_crash}
use Rattle.pv_network.specs.Cutting.{node_of, update_request, stored_for, recorded_world, wish_of, is_stored_for, wished_world, taken_world, applied_world, stored_world, step_of_stop, step_of_cut}
use Rattle.pv_network.specs.Keying.{KeyedByte, first_entry, is_owes, is_storing, step_of_payment, step_of_key, screens_in, is_over, keys_from, UnlessOver, TakesAll, turns_answer, keys_refusal, step_of_taken_keys, step_of_keys, TakesAllAt}
use Rattle.pv_network.specs.Screens.{press_events, wish_events, store_events, reply_events, show_events, payment_events, key_events, keys_events, taken_events, is_same_port, seat_events, step_turns, steps_turns, turns_in, port_turns, call_events, call_turns, AreChoices}
use Rattle.pv_edits.specs.declared.room.TheConstants.{OPERATOR}
use Rattle.pv_edits.specs.declared.wish.EditWish.TheVariants.{Put}
use Rattle.pv_udc.specs.Judgement.{next_number}
use Rattle.pv_network.specs.Editing.{seeded_frame}
use Rattle.pv_network.specs.Step.{Choice, IsChoice, happens}
use Rattle.pv_traffic.specs.Link.{packets_on, packet_room}
use Rattle.pv_network.specs.Traffic.{arrival_on, no_load}
use Rattle.pv_traffic.specs.declared.way.Way.TheVariants as ways
use Rattle.pv_network.specs.World.{World, centre_at, link_at}
use Rattle.pv_network.proofs.KeyTurns.{entry_turns}
use Rattle.pv_network.proofs.SoundCalls.{to_store}
use Rattle.pv_network.proofs.Untouched.{Books, books_at, request_same, line_same, sending_same, arriving_same, rounds_same, call_elsewhere, calls_elsewhere, calls_here, none_left, next_same, call_here}

-- ---- stretches of a call

-- the seat with which a call goes on, if it does
abbrev SeatOf : Option Call → CallState → Type 0
SeatOf None after = Unit {0}
SeatOf (Some call) after = call.seat ≡ after

-- a seat has steps that show these screens
pub record Goes (seat : CallState) (happened : List CallEvent) (turns : List Turn) (next : Option Call) : Type 0 where
  pub steps : List Step
  pub after : CallState
  pub are : AreSteps seat happened steps after
  pub shown : turns ≡ steps_turns steps
  pub left : SeatOf next after

-- a call goes on so; without a call nothing happens and nothing is shown
abbrev Stretch : Option Call → List CallEvent → List Turn → Option Call → Type 0
Stretch None happened turns next = (happened ≡ []) × (turns ≡ []) × (next ≡ None)
Stretch (Some call) happened turns next = Goes call.seat happened turns next

-- nothing happens
stays : (call : Option Call) → Stretch call [] [] call
stays None = (refl, refl, refl)
stays (Some call) = record { steps = []; after = call.seat; are = refl; shown = refl; left = refl }

-- the call is as it was
unchanged : (call next : Option Call) → next ≡ call → Stretch call [] [] next
unchanged call next is = subst (λ (n : Option Call). Stretch call [] [] n) (sym is) (stays call)

steps_append : (seat middle after : CallState) (one two : List CallEvent) (ones twos : List Step)
    → AreSteps seat one ones middle → AreSteps middle two twos after → AreSteps seat (one ++ two) (ones ++ twos) after
steps_append seat middle after [] two [] twos first second = subst (λ (s : CallState). AreSteps s two twos after) (sym first) second
steps_append seat middle after [] two (step ∷ ones) twos first second = absurd first
steps_append seat middle after (event ∷ one) two [] twos first second = absurd first
steps_append seat middle after (event ∷ one) two (step ∷ ones) twos (next, here, more) second =
    (next, here, steps_append next middle after one two ones twos more second)

turns_append : (ones twos : List Step) → steps_turns (ones ++ twos) ≡ steps_turns ones ++ steps_turns twos
turns_append [] twos = refl
turns_append (step ∷ ones) twos =
    ap (λ (l : List Turn). step_turns step ++ l) (turns_append ones twos) ∙ sym
    (append_assoc (step_turns step) (steps_turns ones) (steps_turns twos))

-- one stretch after another
stretch_on : (call middle next : Option Call) (one two : List CallEvent) (ones twos : List Turn)
    → Stretch call one ones middle → Stretch middle two twos next → Stretch call (one ++ two) (ones ++ twos) next
stretch_on None None next one two ones twos (a, b, c) (d, e, f) = (rw (a, d) refl, rw (b, e) refl, f)
stretch_on None (Some middle) next one two ones twos (a, b, c) second = absurd cc
stretch_on (Some call) None next one two ones twos first (d, e, f) = record {
  steps = first.steps;
  after = first.after;
  are = subst (λ (l : List CallEvent). AreSteps call.seat l first.steps first.after)
      (sym (ap (λ (l : List CallEvent). one ++ l) d ∙ append-nil one)) first.are;
  shown = ap (λ (l : List Turn). ones ++ l) e ∙ append-nil ones ∙ first.shown;
  left = subst (λ (n : Option Call). SeatOf n first.after) (sym f) tt;
}
stretch_on (Some call) (Some middle) next one two ones twos first second = record {
  steps = first.steps ++ second.steps;
  after = second.after;
  are = steps_append call.seat middle.seat second.after one two first.steps second.steps
      (subst (λ (s : CallState). AreSteps call.seat one first.steps s) (sym first.left) first.are) second.are;
  shown = ap (λ (l : List Turn). l ++ twos) first.shown ∙ ap (λ (l : List Turn). steps_turns first.steps ++ l) second.shown
      ∙ sym (turns_append first.steps second.steps);
  left = second.left;
}

-- a stretch that ends is one before nothing
stretch_end : (call next : Option Call) (one : List CallEvent) (ones : List Turn) → Stretch call one ones next
    → Stretch call (one ++ []) ones next
stretch_end call next one ones first = subst (λ (l : List CallEvent). Stretch call l ones next) (sym (append-nil one)) first

-- a turn of the seat
turn_goes : (seat : CallState) (event : CallEvent) (after : CallState) (step : Step) → Happens seat event after step
    → Goes seat (event ∷ []) (screens_in (step_answer step)) (call_after after step)
turn_goes seat event after steps.Quiet happened = record {
  steps = steps.Quiet ∷ [];
  after = after;
  are =
      (after, happened, refl);
  shown = refl;
  left = refl;
}
turn_goes seat event after (steps.Show screen) happened = record {
  steps = steps.Show screen ∷ [];
  after = after;
  are =
      (after, happened, refl);
  shown = refl;
  left = refl;
}
turn_goes seat event after (steps.Owe wish) happened = record {
  steps = steps.Owe wish ∷ [];
  after = after;
  are =
      (after, happened, refl);
  shown = refl;
  left = refl;
}
turn_goes seat event after (steps.Ended why screen) happened = record {
  steps = steps.Ended why screen ∷ [];
  after = after;
  are =
      (after, happened, refl);
  shown = refl;
  left = tt;
}

-- a full centre ends the call
full_goes : (seat : CallState) (phase : Phase) (count : ℕ) (wish : Wish) → seat.phase ≡ phase → wish_in phase ≡ Some wish
    → Goes seat (Refused ∷ []) (screens_in (away_answer count (full_turn seat phase).1)) None
full_goes seat Listening count wish is owes = absurd cc
full_goes seat (Owing own) count wish is owes = record {
  steps = (full_turn seat (Owing own)).1 ∷ [];
  after = (full_turn seat (Owing own)).0;
  are = ((full_turn seat (Owing own)).0, rw is (record { after_is = refl; step_is = refl }), refl);
  shown = refl;
  left = tt;
}
full_goes seat Over count wish is owes = absurd cc

-- what says that something is owed, or that it was stored, shows no screen
owes_nothing_shown : (outcome : Outcome) → is_owes outcome ≡ true → screens_in outcome ≡ []
owes_nothing_shown (outcomes.Reply text) is = absurd cc
owes_nothing_shown (outcomes.Shown turn) is = absurd cc
owes_nothing_shown outcomes.Busy is = absurd cc
owes_nothing_shown outcomes.Quiet is = absurd cc
owes_nothing_shown outcomes.Owes is = refl
owes_nothing_shown outcomes.Owing is = absurd cc
owes_nothing_shown outcomes.NoCall is = absurd cc
owes_nothing_shown outcomes.Nothing is = absurd cc
owes_nothing_shown outcomes.Hung is = absurd cc
owes_nothing_shown outcomes.Stored is = absurd cc
owes_nothing_shown (outcomes.StoreFull count screen) is = absurd cc
owes_nothing_shown (outcomes.Turns turns) is = absurd cc
owes_nothing_shown outcomes.Idle is = absurd cc
owes_nothing_shown outcomes.PacketsFull is = absurd cc
owes_nothing_shown outcomes.NoPacket is = absurd cc
owes_nothing_shown (outcomes.SentRecord index number) is = absurd cc
owes_nothing_shown (outcomes.SentItem index number) is = absurd cc
owes_nothing_shown (outcomes.Taken number ack) is = absurd cc
owes_nothing_shown (outcomes.Old number ack) is = absurd cc
owes_nothing_shown (outcomes.Early number ack) is = absurd cc
owes_nothing_shown (outcomes.Heard number) is = absurd cc
owes_nothing_shown (outcomes.Full count) is = absurd cc
owes_nothing_shown (outcomes.Carried records items) is = absurd cc
owes_nothing_shown (outcomes.Crashed count) is = absurd cc
owes_nothing_shown outcomes.Kept is = absurd cc
owes_nothing_shown outcomes.Lost is = absurd cc
owes_nothing_shown outcomes.NotStored is = absurd cc
owes_nothing_shown (outcomes.Clock moment) is = absurd cc
owes_nothing_shown outcomes.NotHeld is = absurd cc
owes_nothing_shown (outcomes.Applied count) is = absurd cc
owes_nothing_shown (outcomes.Records count) is = absurd cc
owes_nothing_shown (outcomes.Bill lines pence) is = absurd cc

stored_nothing_shown : (outcome : Outcome) → is_storing outcome ≡ true → screens_in outcome ≡ []
stored_nothing_shown (outcomes.Reply text) is = absurd cc
stored_nothing_shown (outcomes.Shown turn) is = absurd cc
stored_nothing_shown outcomes.Busy is = absurd cc
stored_nothing_shown outcomes.Quiet is = absurd cc
stored_nothing_shown outcomes.Owes is = absurd cc
stored_nothing_shown outcomes.Owing is = absurd cc
stored_nothing_shown outcomes.NoCall is = absurd cc
stored_nothing_shown outcomes.Nothing is = absurd cc
stored_nothing_shown outcomes.Hung is = absurd cc
stored_nothing_shown outcomes.Stored is = refl
stored_nothing_shown (outcomes.StoreFull count screen) is = absurd cc
stored_nothing_shown (outcomes.Turns turns) is = absurd cc
stored_nothing_shown outcomes.Idle is = absurd cc
stored_nothing_shown outcomes.PacketsFull is = absurd cc
stored_nothing_shown outcomes.NoPacket is = absurd cc
stored_nothing_shown (outcomes.SentRecord index number) is = absurd cc
stored_nothing_shown (outcomes.SentItem index number) is = absurd cc
stored_nothing_shown (outcomes.Taken number ack) is = absurd cc
stored_nothing_shown (outcomes.Old number ack) is = absurd cc
stored_nothing_shown (outcomes.Early number ack) is = absurd cc
stored_nothing_shown (outcomes.Heard number) is = absurd cc
stored_nothing_shown (outcomes.Full count) is = absurd cc
stored_nothing_shown (outcomes.Carried records items) is = absurd cc
stored_nothing_shown (outcomes.Crashed count) is = absurd cc
stored_nothing_shown outcomes.Kept is = absurd cc
stored_nothing_shown outcomes.Lost is = absurd cc
stored_nothing_shown outcomes.NotStored is = absurd cc
stored_nothing_shown (outcomes.Clock moment) is = absurd cc
stored_nothing_shown outcomes.NotHeld is = absurd cc
stored_nothing_shown (outcomes.Applied count) is = absurd cc
stored_nothing_shown (outcomes.Records count) is = absurd cc
stored_nothing_shown (outcomes.Bill lines pence) is = absurd cc

-- ---- at a port

module _ (w : World) (c p : ℕ) where
  -- a world that is given the calls which a centre has is as it was
  calls_same : with_calls w c (calls_at w c) ≡ w
  calls_same = ap (λ (centres : List _). record w { centres = centres }) (set-get_or w.centres c new_centre)

  -- nothing is done with the calls
  nothing_done : (call : Option Call) → call_at w c p ≡ call → Stretch call [] [] (call_at (with_calls w c (calls_at w c)) c p)
  nothing_done call is = unchanged call _ (ap (λ (v : World). call_at v c p) calls_same ∙ is)

  -- another call, or none, is there next
  next_is : (call : Call) → call_at w c p ≡ Some call → (next : Option Call)
      → call_at (with_calls w c (with_call (calls_at w c) p next)) c p ≡ next
  next_is call is next = calls_here w c p call is (with_call (calls_at w c) p next) ∙ call_here w c p call is next

  press_stretch : (key : ℕ) (entry : Option Entry) (call : Option Call) → call_at w c p ≡ call → IsPortEntry call key entry
      → Stretch call (press_events (view_at w c p) w.moment key call)
      (screens_in (press_at (calls_at w c) p key (view_at w c p) w.moment entry call).1)
      (call_at (with_calls w c (press_at (calls_at w c) p key (view_at w c p) w.moment entry call).0) c p)
  press_stretch key entry None is says = nothing_done None is
  press_stretch key entry (Some call) is says = by (is_waiting call) says
    where
      by : (waiting : Bool) → IsEntryUnlessWaiting waiting call key entry
          → Stretch (Some call) (cond waiting [] (Keyed key (view_at w c p) w.moment ∷ []))
          (screens_in (cond waiting (calls_at w c, outcomes.Owing)
          (turn_at (calls_at w c) p (key_turn call.seat key (view_at w c p) w.moment entry))).1)
          (call_at (with_calls w c (cond waiting (calls_at w c, outcomes.Owing)
          (turn_at (calls_at w c) p (key_turn call.seat key (view_at w c p) w.moment entry))).0) c p)
      by true waits = nothing_done (Some call) is
      by false said =
          let turn = key_turn call.seat key (view_at w c p) w.moment entry in
          subst (λ (next : Option Call). Goes call.seat (Keyed key (view_at w c p) w.moment ∷ []) (screens_in (step_answer turn.1)) next)
          (sym (next_is call is (call_after turn.0 turn.1)))
          (turn_goes call.seat (Keyed key (view_at w c p) w.moment) turn.0 turn.1
          (entry_turns call.seat key (view_at w c p) w.moment entry said))

  store_stretch : (holdings : Holdings) (call : Option Call) → call_at w c p ≡ call
      → Stretch call (store_events holdings call) (screens_in (store_at holdings (calls_at w c) p call).1)
      (call_at (with_calls w c (store_at holdings (calls_at w c) p call).0) c p)
  store_stretch holdings None is = nothing_done None is
  store_stretch holdings (Some call) is = by (wish_to_store call) refl
    where
      full : (refused : Bool) (wish : Wish) → wish_to_store call ≡ Some wish
          → Stretch (Some call) (cond refused (Refused ∷ []) []) (screens_in (storing_unless refused holdings (calls_at w c) p call wish).1)
          (call_at (with_calls w c (storing_unless refused holdings (calls_at w c) p call wish).0) c p)
      full true wish owes =
          subst (λ (next : Option Call). Goes call.seat (Refused ∷ [])
          (screens_in (away_answer holdings.count (full_turn call.seat call.seat.phase).1)) next)
          (sym (next_is call is None)) (full_goes call.seat call.seat.phase holdings.count wish refl (to_store call wish owes).1)
      full false wish owes =
          let there = calls_here w c p call is (with_wish holdings (calls_at w c) p call wish) ∙ call_here w c p call is _ in
          subst (λ (next : Option Call). Goes call.seat [] [] next) (sym there)
          (record { steps = []; after = call.seat; are = refl; shown = refl; left = refl })

      by : (wish : Option Wish) → wish_to_store call ≡ wish
          → Stretch (Some call) (wish_events holdings wish) (screens_in (storing_at holdings (calls_at w c) p call wish).1)
          (call_at (with_calls w c (storing_at holdings (calls_at w c) p call wish).0) c p)
      by None owes = nothing_done (Some call) is
      by (Some wish) owes = full (lacks_room holdings wish) wish owes

  show_stretch : (call : Option Call) → call_at w c p ≡ call
      → Stretch call (show_events call) (screens_in (show_at (calls_at w c) p call).1)
      (call_at (with_calls w c (show_at (calls_at w c) p call).0) c p)
  show_stretch None is = nothing_done None is
  show_stretch (Some call) is = by call.stored
    where
      by : (stored : Option Paid) → Stretch (Some call) (reply_events stored) (screens_in (showing_at (calls_at w c) p call.seat stored).1)
          (call_at (with_calls w c (showing_at (calls_at w c) p call.seat stored).0) c p)
      by None = nothing_done (Some call) is
      by (Some reply) =
          let turn = storing_turn call.seat call.seat.phase reply in
          subst (λ (next : Option Call). Goes call.seat (Stored reply ∷ []) (screens_in (step_answer turn.1)) next)
          (sym (next_is call is (call_after turn.0 turn.1)))
          (turn_goes call.seat (Stored reply) turn.0 turn.1 (record { after_is = refl; step_is = refl }))

-- a payment
payment_stretch : (w : World) (c p : ℕ)
    → Stretch (call_at w c p) (payment_events w c p) (screens_in (step_of_payment w c p).1) (call_at (step_of_payment w c p).0 c p)
payment_stretch w c p = by (is_storing (step_of_store w c p).1) refl
  where
    first : Stretch (call_at w c p) (store_events (holdings_at w c) (call_at w c p)) (screens_in (step_of_store w c p).1)
        (call_at (step_of_store w c p).0 c p)
    first = store_stretch w c p (holdings_at w c) (call_at w c p) refl

    by : (stored : Bool) → is_storing (step_of_store w c p).1 ≡ stored
        → Stretch (call_at w c p) (store_events (holdings_at w c) (call_at w c p) ++ cond stored
        (show_events (call_at (step_of_store w c p).0 c p)) [])
        (screens_in (cond stored (step_of_show (step_of_store w c p).0 c p) (step_of_store w c p)).1)
        (call_at (cond stored (step_of_show (step_of_store w c p).0 c p) (step_of_store w c p)).0 c p)
    by true is =
        let v = (step_of_store w c p).0 in
        let both = stretch_on (call_at w c p) (call_at v c p) (call_at (step_of_show v c p).0 c p) _ (show_events (call_at v c p)) _
        (screens_in (step_of_show v c p).1) first
        (show_stretch v c p (call_at v c p) refl) in
        subst (λ (l : List Turn). Stretch (call_at w c p) (store_events (holdings_at w c) (call_at w c p) ++ show_events (call_at v c p))
        (l ++ screens_in (step_of_show v c p).1) (call_at (step_of_show v c p).0 c p))
        (stored_nothing_shown (step_of_store w c p).1 is) both
    by false is = stretch_end (call_at w c p) _ _ _ first

-- a key
key_stretch : (w : World) (c p : ℕ) (key : KeyedByte) → IsPortEntry (call_at w c p) key.byte key.entry
    → Stretch (call_at w c p) (key_events w c p key) (screens_in (step_of_key w c p key).1) (call_at (step_of_key w c p key).0 c p)
key_stretch w c p key says = by (is_owes (step_of_press w c p key.byte key.entry).1) refl
  where
    first : Stretch (call_at w c p) (press_events (view_at w c p) w.moment key.byte (call_at w c p))
        (screens_in (step_of_press w c p key.byte key.entry).1) (call_at (step_of_press w c p key.byte key.entry).0 c p)
    first = press_stretch w c p key.byte key.entry (call_at w c p) refl says

    by : (owes : Bool) → is_owes (step_of_press w c p key.byte key.entry).1 ≡ owes
        → Stretch (call_at w c p) (press_events (view_at w c p) w.moment key.byte (call_at w c p) ++ cond owes
        (payment_events (step_of_press w c p key.byte key.entry).0 c p) [])
        (screens_in (cond owes (step_of_payment (step_of_press w c p key.byte key.entry).0 c p) (step_of_press w c p key.byte key.entry)).1)
        (call_at (cond owes (step_of_payment (step_of_press w c p key.byte key.entry).0 c p)
        (step_of_press w c p key.byte key.entry)).0 c p)
    by true is =
        let v = (step_of_press w c p key.byte key.entry).0 in
        let both = stretch_on (call_at w c p) (call_at v c p) (call_at (step_of_payment v c p).0 c p) _ (payment_events v c p) _
        (screens_in (step_of_payment v c p).1) first
        (payment_stretch v c p) in
        subst (λ (l : List Turn). Stretch (call_at w c p)
        (press_events (view_at w c p) w.moment key.byte (call_at w c p) ++ payment_events v c p)
        (l ++ screens_in (step_of_payment v c p).1) (call_at (step_of_payment v c p).0 c p))
        (owes_nothing_shown (step_of_press w c p key.byte key.entry).1 is) both
    by false is = stretch_end (call_at w c p) _ _ _ first

-- all keys
keys_stretch : (w : World) (c p : ℕ) (keys : List KeyedByte) → TakesAll w c p keys
    → Stretch (call_at w c p) (keys_events w c p keys) (keys_from w c p keys).1 (call_at (keys_from w c p keys).0 c p)
keys_stretch w c p [] are = stays (call_at w c p)
keys_stretch w c p (key ∷ keys) are = by (is_over (step_of_key w c p key).1) are.1
    (λ more. keys_stretch (step_of_key w c p key).0 c p keys more)
  where
    first : Stretch (call_at w c p) (key_events w c p key) (screens_in (step_of_key w c p key).1) (call_at (step_of_key w c p key).0 c p)
    first = key_stretch w c p key are.0

    by : (over : Bool) → UnlessOver over (TakesAll (step_of_key w c p key).0 c p keys)
        → (TakesAll (step_of_key w c p key).0 c p keys
        → Stretch (call_at (step_of_key w c p key).0 c p) (keys_events (step_of_key w c p key).0 c p keys)
        (keys_from (step_of_key w c p key).0 c p keys).1 (call_at (keys_from (step_of_key w c p key).0 c p keys).0 c p))
        → Stretch (call_at w c p) (key_events w c p key ++ cond over [] (keys_events (step_of_key w c p key).0 c p keys))
        (cond {A = World × List Turn} over ((step_of_key w c p key).0, screens_in (step_of_key w c p key).1) (
          (keys_from (step_of_key w c p key).0 c p keys).0,
          screens_in (step_of_key w c p key).1 ++
              (keys_from (step_of_key w c p key).0 c p keys).1,
        )).1
        (call_at (cond {A = World × List Turn} over ((step_of_key w c p key).0, screens_in (step_of_key w c p key).1) (
          (keys_from (step_of_key w c p key).0 c p keys).0,
          screens_in (step_of_key w c p key).1 ++
              (keys_from (step_of_key w c p key).0 c p keys).1,
        )).0 c p)
    by true more rest = stretch_end (call_at w c p) _ _ _ first
    by false more rest = stretch_on (call_at w c p) (call_at (step_of_key w c p key).0 c p) _ _ _ _ _ first (rest more)

-- the answer to keys shows their screens
answer_turns : (turns : List Turn) → turns_in (turns_answer turns) ≡ turns
answer_turns [] = refl
answer_turns (turn ∷ turns) = refl

refusal_turns : (call : Option Call) (outcome : Outcome) → keys_refusal call ≡ Some outcome → turns_in outcome ≡ []
refusal_turns None outcome is = let same : outcome ≡ outcomes.NoCall = cc in ap turns_in same
refusal_turns (Some call) outcome is = by (is_waiting call) is
  where
    by : (waiting : Bool) → cond waiting (Some outcomes.Owing) None ≡ Some outcome → turns_in outcome ≡ []
    by true found = let same : outcome ≡ outcomes.Owing = cc in ap turns_in same
    by false found = absurd cc

-- keys at a port
taken_stretch : (w : World) (c p : ℕ) (keys : List KeyedByte) (refusal : Option Outcome) → keys_refusal (call_at w c p) ≡ refusal
    → UnlessOver (is_some refusal) (TakesAll w c p keys)
    → Stretch (call_at w c p) (taken_events w c p keys refusal) (turns_in (step_of_taken_keys w c p keys refusal).1)
    (call_at (step_of_taken_keys w c p keys refusal).0 c p)
taken_stretch w c p keys (Some outcome) is are =
    subst (λ (l : List Turn). Stretch (call_at w c p) [] l (call_at w c p)) (sym (refusal_turns (call_at w c p) outcome is))
    (stays (call_at w c p))
taken_stretch w c p keys None is are =
    subst (λ (l : List Turn). Stretch (call_at w c p) (keys_events w c p keys) l (call_at (keys_from w c p keys).0 c p))
    (sym (answer_turns (keys_from w c p keys).1))
    (keys_stretch w c p keys are)

-- ---- an event

same_port : (centre port c p : ℕ) → is_same_port centre port c p ≡ true → (centre ≡ c) × (port ≡ p)
same_port centre port c p is = (grind (arith, nat_tests, is), grind (arith, nat_tests, is))

other_port : (centre port c p : ℕ) → is_same_port centre port c p ≡ false → centre ≡ c → port ≡ p → ⊥
other_port centre port c p is one two = grind (arith, nat_tests, is, one, two)

-- by whether the event is at the port
by_port : (w : World) (c p centre port : ℕ) (here : ℕ → ℕ → World × Outcome) (shown : Outcome → List Turn) (happened : List CallEvent)
    → (centre ≡ c → port ≡ p → Stretch (call_at w c p) happened (shown (here c p).1) (call_at (here c p).0 c p))
    → ((centre ≡ c → port ≡ p → ⊥) → call_at (here centre port).0 c p ≡ call_at w c p)
    → Stretch (call_at w c p) (cond (is_same_port centre port c p) happened [])
    (cond (is_same_port centre port c p) (shown (here centre port).1) [])
    (call_at (here centre port).0 c p)
by_port w c p centre port here shown happened at elsewhere = by (is_same_port centre port c p) refl
  where
    by : (same : Bool) → is_same_port centre port c p ≡ same
        → Stretch (call_at w c p) (cond same happened []) (cond same (shown (here centre port).1) []) (call_at (here centre port).0 c p)
    by true is =
        let place = same_port centre port c p is in
        subst (λ (n : ℕ). Stretch (call_at w c p) happened (shown (here n port).1) (call_at (here n port).0 c p)) (sym place.0)
        (subst (λ (m : ℕ). Stretch (call_at w c p) happened (shown (here c m).1) (call_at (here c m).0 c p)) (sym place.1)
        (at place.0 place.1))
    by false is = unchanged (call_at w c p) _ (elsewhere (other_port centre port c p is))

module _ (w : World) (c p centre port : ℕ) (other : centre ≡ c → port ≡ p → ⊥) where
  -- nothing is done with a centre's calls
  kept_calls : call_at (with_calls w centre (calls_at w centre)) c p ≡ call_at w c p
  kept_calls = ap (λ (v : World). call_at v c p) (calls_same w centre p)

  -- a call at another port changes
  changed_call : (call : Option Call) → call_at (with_calls w centre (with_call (calls_at w centre) port call)) c p ≡ call_at w c p
  changed_call call = call_elsewhere w c p centre port call (with_call (calls_at w centre) port call) other refl

  dial_elsewhere : (call : Option Call) → call_at (with_calls w centre (dial_at (calls_at w centre) port call).0) c p ≡ call_at w c p
  dial_elsewhere None = changed_call (Some first_call)
  dial_elsewhere (Some call) = kept_calls

  hang_elsewhere : (call : Option Call) → call_at (with_calls w centre (hang_at (calls_at w centre) port call).0) c p ≡ call_at w c p
  hang_elsewhere None = kept_calls
  hang_elsewhere (Some call) = changed_call None

  press_elsewhere : (key : ℕ) (view : View) (moment : ℕ) (entry : Option Entry) (call : Option Call)
      → call_at (with_calls w centre (press_at (calls_at w centre) port key view moment entry call).0) c p ≡ call_at w c p
  press_elsewhere key view moment entry None = kept_calls
  press_elsewhere key view moment entry (Some call) = by (is_waiting call)
    where
      by : (waiting : Bool)
          → call_at (with_calls w centre (cond waiting (calls_at w centre, outcomes.Owing)
          (turn_at (calls_at w centre) port (key_turn call.seat key view moment entry))).0) c p ≡ call_at w c p
      by true = kept_calls
      by false = changed_call _

  store_elsewhere : (holdings : Holdings) (call : Option Call)
      → call_at (with_calls w centre (store_at holdings (calls_at w centre) port call).0) c p ≡ call_at w c p
  store_elsewhere holdings None = kept_calls
  store_elsewhere holdings (Some call) = by (wish_to_store call)
    where
      full : (refused : Bool) (wish : Wish)
          → call_at (with_calls w centre (storing_unless refused holdings (calls_at w centre) port call wish).0) c p ≡ call_at w c p
      full true wish = changed_call None
      full false wish = call_elsewhere w c p centre port _ (with_wish holdings (calls_at w centre) port call wish) other refl

      by : (wish : Option Wish)
          → call_at (with_calls w centre (storing_at holdings (calls_at w centre) port call wish).0) c p ≡ call_at w c p
      by None = kept_calls
      by (Some wish) = full (lacks_room holdings wish) wish

  show_elsewhere : (call : Option Call) → call_at (with_calls w centre (show_at (calls_at w centre) port call).0) c p ≡ call_at w c p
  show_elsewhere None = kept_calls
  show_elsewhere (Some call) = by call.stored
    where
      by : (stored : Option Paid)
          → call_at (with_calls w centre (showing_at (calls_at w centre) port call.seat stored).0) c p ≡ call_at w c p
      by None = kept_calls
      by (Some reply) = changed_call _

-- at another port
press_other : (w : World) (c p centre port key : ℕ) (entry : Option Entry) → (centre ≡ c → port ≡ p → ⊥)
    → call_at (step_of_press w centre port key entry).0 c p ≡ call_at w c p
press_other w c p centre port key entry other = press_elsewhere w c p centre port other key (view_at w centre port) w.moment
    entry (call_at w centre port)

store_other : (w : World) (c p centre port : ℕ) → (centre ≡ c → port ≡ p → ⊥) → call_at (step_of_store w centre port).0 c p ≡ call_at w c p
store_other w c p centre port other =
    store_elsewhere w c p centre port other (holdings_at w centre) (call_at w centre port)

show_other : (w : World) (c p centre port : ℕ) → (centre ≡ c → port ≡ p → ⊥) → call_at (step_of_show w centre port).0 c p ≡ call_at w c p
show_other w c p centre port other = show_elsewhere w c p centre port other (call_at w centre port)

payment_other : (w : World) (c p centre port : ℕ) → (centre ≡ c → port ≡ p → ⊥)
    → call_at (step_of_payment w centre port).0 c p ≡ call_at w c p
payment_other w c p centre port other = by (is_storing (step_of_store w centre port).1)
  where
    by : (stored : Bool)
        → call_at (cond stored (step_of_show (step_of_store w centre port).0 centre port)
        (step_of_store w centre port)).0 c p ≡ call_at w c p
    by true = show_other (step_of_store w centre port).0 c p centre port other ∙ store_other w c p centre port other
    by false = store_other w c p centre port other

key_other : (w : World) (c p centre port : ℕ) (key : KeyedByte) → (centre ≡ c → port ≡ p → ⊥)
    → call_at (step_of_key w centre port key).0 c p ≡ call_at w c p
key_other w c p centre port key other = by (is_owes (step_of_press w centre port key.byte key.entry).1)
  where
    by : (owes : Bool)
        → call_at (cond owes (step_of_payment (step_of_press w centre port key.byte key.entry).0 centre port)
        (step_of_press w centre port key.byte key.entry)).0 c p ≡ call_at w c p
    by true = payment_other (step_of_press w centre port key.byte key.entry).0 c p centre port other ∙ press_other w c p centre port
        key.byte key.entry other
    by false = press_other w c p centre port key.byte key.entry other

keys_other : (w : World) (c p centre port : ℕ) (keys : List KeyedByte) → (centre ≡ c → port ≡ p → ⊥)
    → call_at (keys_from w centre port keys).0 c p ≡ call_at w c p
keys_other w c p centre port [] other = refl
keys_other w c p centre port (key ∷ keys) other =
    by (is_over (step_of_key w centre port key).1) (keys_other (step_of_key w centre port key).0 c p centre port keys other)
  where
    by : (over : Bool)
        → call_at (keys_from (step_of_key w centre port key).0 centre port keys).0 c p ≡ call_at (step_of_key w centre port key).0 c p
        → call_at (cond {A = World × List Turn} over ((step_of_key w centre port key).0, screens_in (step_of_key w centre port key).1) (
          (keys_from (step_of_key w centre port key).0 centre port keys).0,
          screens_in (step_of_key w centre port key).1 ++
              (keys_from (step_of_key w centre port key).0 centre port keys).1,
        )).0 c p ≡ call_at w c p
    by true rest = key_other w c p centre port key other
    by false rest = rest ∙ key_other w c p centre port key other

taken_other : (w : World) (c p centre port : ℕ) (keys : List KeyedByte) (refusal : Option Outcome) → (centre ≡ c → port ≡ p → ⊥)
    → call_at (step_of_taken_keys w centre port keys refusal).0 c p ≡ call_at w c p
taken_other w c p centre port keys (Some outcome) other = refl
taken_other w c p centre port keys None other = keys_other w c p centre port keys other

-- a dial at a port that has a call, and a hang-up, are no steps of a seat
dial_stretch : (w : World) (c p : ℕ) (call : Option Call) (there : Call) → call_at w c p ≡ call → call ≡ Some there
    → Stretch call [] [] (call_at (with_calls w c (dial_at (calls_at w c) p call).0) c p)
dial_stretch w c p None there is some = absurd cc
dial_stretch w c p (Some call) there is some = nothing_done w c p (Some call) is

hang_stretch : (w : World) (c p : ℕ) (call : Option Call) → call_at w c p ≡ call
    → Stretch call [] [] (call_at (with_calls w c (hang_at (calls_at w c) p call).0) c p)
hang_stretch w c p None is = nothing_done w c p None is
hang_stretch w c p (Some call) is =
    subst (λ (next : Option Call). Goes call.seat [] [] next) (sym (next_is w c p call is None))
    (record { steps = []; after = call.seat; are = refl; shown = refl; left = tt })

-- an event at no port is no step of a seat
no_step : (w : World) (c p : ℕ) (v : World) → books_at v c ≡ books_at w c → Stretch (call_at w c p) [] [] (call_at v c p)
no_step w c p v same = unchanged (call_at w c p) _ (ap (λ (books : Books). call_in books.calls p) same)

-- neither is one that shows nothing and leaves the call or ends it
no_turn : (w : World) (c p centre port : ℕ) (here : ℕ → ℕ → World × Outcome)
    → (centre ≡ c → port ≡ p → Stretch (call_at w c p) [] [] (call_at (here c p).0 c p))
    → ((centre ≡ c → port ≡ p → ⊥) → call_at (here centre port).0 c p ≡ call_at w c p)
    → Stretch (call_at w c p) [] [] (call_at (here centre port).0 c p)
no_turn w c p centre port here at elsewhere = by (is_same_port centre port c p) refl
  where
    by : (same : Bool) → is_same_port centre port c p ≡ same → Stretch (call_at w c p) [] [] (call_at (here centre port).0 c p)
    by true is =
        let place = same_port centre port c p is in
        subst (λ (n : ℕ). Stretch (call_at w c p) [] [] (call_at (here n port).0 c p)) (sym place.0)
        (subst (λ (m : ℕ). Stretch (call_at w c p) [] [] (call_at (here c m).0 c p)) (sym place.1) (at place.0 place.1))
    by false is = unchanged (call_at w c p) _ (elsewhere (other_port centre port c p is))

-- what is stored at a node leaves the calls of the others
abbrev LeavesOthers : NodeName → World → World → Type 0
LeavesOthers nodes.Udc w v = (c p : ℕ) → call_at v c p ≡ call_at w c p
LeavesOthers (nodes.Centre centre) w v = (c p : ℕ) → (centre ≡ c → ⊥) → call_at v c p ≡ call_at w c p

-- a crash of a node, with or without what was stored, shows nothing, and ends the calls of a centre that crashes
crash_stretch : (w v : World) (c p : ℕ) (call : Call) (node : NodeName) → call_at w c p ≡ Some call → LeavesOthers node w v
    → Stretch (call_at w c p) [] [] (call_at (step_of_crash v node).0 c p)
crash_stretch w v c p call nodes.Udc is leaves = unchanged (call_at w c p) _ (leaves c p)
crash_stretch w v c p call (nodes.Centre centre) is leaves =
    no_turn w c p centre p (λ n m. step_of_centre_crash v n) (λ one two. ended)
    (λ other. calls_elsewhere v c p centre (λ same. other same refl) ∙ leaves c p (λ same. other same refl))
  where
    ended : Stretch (call_at w c p) [] [] (call_at (step_of_centre_crash v c).0 c p)
    ended =
        subst (λ (there : Option Call). Stretch there [] [] (call_at (step_of_centre_crash v c).0 c p)) (sym is)
        (subst (λ (next : Option Call). Goes call.seat [] [] next) (sym (none_left v c p))
        (record { steps = []; after = call.seat; are = refl; shown = refl; left = tt }))

-- nothing is stored
leaves_all : (w : World) (node : NodeName) → LeavesOthers node w w
leaves_all w nodes.Udc = λ c p. refl
leaves_all w (nodes.Centre centre) = λ c p other. refl

-- a record of the edit list is no call's
recorded_leaves : (w : World) (stored : Option Record) → IfSome (recorded_world w stored) (LeavesOthers nodes.Udc w)
recorded_leaves w None = tt
recorded_leaves w (Some edit) = λ c p. refl

-- so it is of what a command stores
stored_leaves : (w : World) (command : Storing) (said : Option EditLine)
    → IfSome (stored_world w command said) (LeavesOthers (node_of command) w)
stored_leaves w (commands.Seed name row) said = recorded_leaves w (stored_for w.update (update_request w (commands.Seed name row) said))
stored_leaves w (commands.Edit port line) said = recorded_leaves w (stored_for w.update (update_request w (commands.Edit port line) said))
stored_leaves w (commands.Back centre index) said =
    recorded_leaves w (stored_for w.update (update_request w (commands.Back centre index) said))
stored_leaves w (commands.Store centre port) said = by (wish_of (call_at w centre port))
  where
    if_stored : (test : Bool) → IfSome (cond test (Some (step_of_store w centre port).0) None) (LeavesOthers (nodes.Centre centre) w)
    if_stored true = λ c p other. store_other w c p centre port (λ same there. other same)
    if_stored false = tt

    by : (wish : Option Wish) → IfSome (wish >>= wished_world w centre port) (LeavesOthers (nodes.Centre centre) w)
    by None = tt
    by (Some wish) = if_stored (is_stored_for (holdings_at w centre) wish)
stored_leaves w (commands.Deliver centre index) said = by (slice_get (packets_on ways.Down (link_at w centre)) index)
  where
    taken : (how : Arrival) → IfSome (taken_world w centre how) (LeavesOthers (nodes.Centre centre) w)
    taken arrivals.Taken = λ c p other. ap (λ (books : Books). call_in books.calls p) (next_same c w centre)
    taken arrivals.Old = tt
    taken arrivals.Early = tt
    taken arrivals.Full = tt

    of_packet : (packet : Packet) → IfSome (applied_world w centre packet) (LeavesOthers (nodes.Centre centre) w)
    of_packet (Down from number rec) = taken (arrival_on ways.Down w centre number)
    of_packet (Up from number item) = tt
    of_packet (DownHeard from count) = tt
    of_packet (UpHeard from count) = tt

    by : (found : Option Packet) → IfSome (found >>= applied_world w centre) (LeavesOthers (nodes.Centre centre) w)
    by None = tt
    by (Some packet) = of_packet packet

-- a node that is lost within a command shows nothing
cut_stretch : (w : World) (c p : ℕ) (call : Call) (command : Storing) (kept : Bool) (said : Option EditLine) → call_at w c p ≡ Some call
    → Stretch (call_at w c p) [] [] (call_at (step_of_cut w command kept said).0 c p)
cut_stretch w c p call command kept said is = by (stored_world w command said) (stored_leaves w command said) kept
  where
    by : (stored : Option World) → IfSome stored (LeavesOthers (node_of command) w) → (kept : Bool)
        → Stretch (call_at w c p) [] [] (call_at (step_of_stop w (node_of command) stored kept).0 c p)
    by None leaves kept = crash_stretch w w c p call (node_of command) is (leaves_all w (node_of command))
    by (Some v) leaves true = crash_stretch w v c p call (node_of command) is leaves
    by (Some v) leaves false = crash_stretch w w c p call (node_of command) is (leaves_all w (node_of command))

-- one event, at a port that has a call
event_stretch : (w : World) (c p : ℕ) (call : Call) (event : Event) (choice : Choice) → call_at w c p ≡ Some call → IsChoice w event choice
    → Stretch (call_at w c p) (seat_events w c p event choice) (port_turns c p event (happens w event choice).1)
    (call_at (happens w event choice).0 c p)
event_stretch w c p call (events.Seed name row) choice is chosen =
    no_step w c p (happens w (events.Seed name row) choice).0
    (request_same c w OPERATOR (next_number w.update.records OPERATOR) (Put name (seeded_frame row)))
event_stretch w c p call (events.Edit port line) choice is chosen =
    no_step w c p (happens w (events.Edit port line) choice).0 (line_same c w port choice.said)
event_stretch w c p call (events.Dial centre port) choice is chosen =
    no_turn w c p centre port (λ n m. step_of_dial w n m) (λ one two. dial_stretch w c p (call_at w c p) call refl is)
    (λ other. dial_elsewhere w c p centre port other (call_at w centre port))
event_stretch w c p call (events.Press centre port key) choice is chosen =
    by_port w c p centre port (λ n m. step_of_press w n m key (first_entry choice.keyed)) screens_in _
    (λ one two. press_stretch w c p key (first_entry choice.keyed) (call_at w c p) refl
    (subst (λ (n : ℕ). IsPortEntry (call_at w n p) key (first_entry choice.keyed)) one
    (subst (λ (m : ℕ). IsPortEntry (call_at w centre m) key (first_entry choice.keyed)) two chosen)))
    (press_other w c p centre port key (first_entry choice.keyed))
event_stretch w c p call (events.Store centre port) choice is chosen =
    by_port w c p centre port (λ n m. step_of_store w n m) screens_in _
    (λ one two. store_stretch w c p (holdings_at w c) (call_at w c p) refl) (store_other w c p centre port)
event_stretch w c p call (events.Show centre port) choice is chosen =
    by_port w c p centre port (λ n m. step_of_show w n m) screens_in _ (λ one two. show_stretch w c p (call_at w c p) refl)
    (show_other w c p centre port)
event_stretch w c p call (events.Keys centre port keys) choice is chosen =
    by_port w c p centre port (λ n m. step_of_keys w n m choice.keyed) turns_in _
    (λ one two. taken_stretch w c p choice.keyed (keys_refusal (call_at w c p)) refl
    (subst (λ (n : ℕ). TakesAllAt w n p choice.keyed) one (subst (λ (m : ℕ). TakesAllAt w centre m choice.keyed) two chosen.1)))
    (taken_other w c p centre port choice.keyed (keys_refusal (call_at w centre port)))
event_stretch w c p call (events.Hang centre port) choice is chosen =
    no_turn w c p centre port (λ n m. step_of_hang w n m) (λ one two. hang_stretch w c p (call_at w c p) refl)
    (λ other. hang_elsewhere w c p centre port other (call_at w centre port))
event_stretch w c p call (events.Send centre) choice is chosen =
    no_step w c p (happens w (events.Send centre) choice).0 (sending_same c ways.Down w centre)
event_stretch w c p call (events.Post centre) choice is chosen =
    no_step w c p (happens w (events.Post centre) choice).0 (sending_same c ways.Up w centre)
event_stretch w c p call (events.Deliver centre index) choice is chosen =
    no_step w c p (happens w (events.Deliver centre index) choice).0 (arriving_same c ways.Down w centre index)
event_stretch w c p call (events.Back centre index) choice is chosen =
    no_step w c p (happens w (events.Back centre index) choice).0 (arriving_same c ways.Up w centre index)
event_stretch w c p call (events.Carry centre) choice is chosen =
    no_step w c p (happens w (events.Carry centre) choice).0 (rounds_same c (packet_room w.links + 1) centre w ways.Down no_load)
event_stretch w c p call (events.Crash node) choice is chosen = crash_stretch w w c p call node is (leaves_all w node)
event_stretch w c p call (events.Cut calls image command) choice is chosen = cut_stretch w c p call command choice.kept choice.said is
event_stretch w c p call (events.Clock moment) choice is chosen = stays (call_at w c p)
event_stretch w c p call (events.View centre name) choice is chosen = stays (call_at w c p)
event_stretch w c p call (events.At centre) choice is chosen = stays (call_at w c p)
event_stretch w c p call events.List choice is chosen = stays (call_at w c p)
event_stretch w c p call (events.Bill account) choice is chosen = stays (call_at w c p)
event_stretch w c p call (events.Lines centre) choice is chosen = stays (call_at w c p)

-- ---- all events

-- a call goes on from event to event, up to its end
pub call_stretch : (w : World) (c p : ℕ) (call : Option Call) (steps : List (Event × Choice)) → call_at w c p ≡ call → AreChoices w steps
    → (next : Option Call) × Stretch call (call_events w c p call steps) (call_turns w c p call steps) next
call_stretch w c p None steps is are = (None, (refl, refl, refl))
call_stretch w c p (Some call) [] is are = (Some call, stays (Some call))
call_stretch w c p (Some call) (step ∷ steps) is are =
    let v = (happens w step.0 step.1).0 in
    let more = call_stretch v c p (call_at v c p) steps refl are.1 in
    let first = subst (λ (there : Option Call). Stretch there (seat_events w c p step.0 step.1)
    (port_turns c p step.0 (happens w step.0 step.1).1) (call_at v c p)) is
    (event_stretch w c p call step.0 step.1 is are.0) in
    (more.0, stretch_on (Some call) (call_at v c p) more.0 _ _ _ _ first more.1)

-- ---- the dial

-- a call begins at a port that is free
pub dial_begins : (w : World) (c p : ℕ) → call_at w c p ≡ None → c < length w.centres → p < length (calls_at w c).ports
    → ((step_of_dial w c p).1 ≡ outcomes.Shown (record { screen = screen_of_blank KeyAccount; ended = None }))
    × (call_at (step_of_dial w c p).0 c p ≡ Some first_call)
dial_begins w c p is there port =
    let new = with_call (calls_at w c) p (Some first_call) in
    let centre = get_or-set_same w.centres c (record (centre_at w c) { calls = new }) new_centre there in
    rw is (
      refl,
      ap (λ (here : Centre). call_in here.calls p) centre ∙ get_or-set_same (calls_at w c).ports p (Some first_call) None port,
    )
