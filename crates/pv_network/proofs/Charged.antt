-- What an event makes of a charged world is charged.
use Rattle.std.proofs.Common.{◌≡◌, ◌≢◌, ℕ, zero, suc, ◌+◌, ◌⊎◌, Bool, true, false, cond, List, [], ◌∷◌, ◌++◌, get_or, set, Option, Some, None, refl, sym, ap, subst, ◌∙◌, inl, inr, arith}
use Rattle.std.specs.Prelude.{Contains, IfSome, is_some, map, slice_get}
use Rattle.std.specs.List.{filter, cons_option}
use Rattle.std.proofs.lemmas.Bool.Decides.{eqb_tells}
use Rattle.std.proofs.lemmas.List.{append-nil, get_or-set_other}
use Rattle.pv_charge.specs.Line.{Charge}
use Rattle.pv_outside.specs.declared.limits.Limits.{Limits}
use Rattle.pv_edits.specs.declared.room.TheConstants.{OPERATOR}
use Rattle.pv_edits.specs.declared.wish.EditWish.TheVariants.{Put}
use Rattle.pv_udc.specs.Judgement.{next_number}
use Rattle.pv_edits.specs.declared.record.Record.{Record}
use Rattle.pv_editor.specs.declared.line.EditLine.{EditLine}
use Rattle.pv_fields.specs.Reading.{◌>>=◌}
use Rattle.pv_packet.specs.declared.packet.Packet.{Packet}
use Rattle.pv_packet.specs.declared.packet.Packet.TheVariants.{Down, Up, DownHeard, UpHeard}
use Rattle.pv_session.specs.declared.entry.Entry.{Entry}
use Rattle.pv_session.specs.declared.step.Wish.{Wish}
use Rattle.pv_network.specs.declared.event.Event.{Event}
use Rattle.pv_network.specs.declared.event.Event.TheVariants as events
use Rattle.pv_network.specs.declared.event.NodeName.{NodeName}
use Rattle.pv_network.specs.declared.event.NodeName.TheVariants as nodes
use Rattle.pv_network.specs.declared.event.TheConstants.{PORTS}
use Rattle.pv_network.specs.declared.outcome.Outcome.{Outcome}
use Rattle.pv_network.specs.declared.outcome.Turn.{Turn}
use Rattle.pv_network.specs.declared.outcome.BillLine.{BillLine}
use Rattle.pv_network.specs.Call.{Call}
use Rattle.pv_network.specs.Calling.{calls_at, call_at, view_at, holdings_at, with_calls, step_of_dial, step_of_hang, step_of_press, step_of_store, step_of_show}
use Rattle.pv_network.specs.Calls.{Calls, no_calls, call_in, show_at, IsPortEntry}
use Rattle.pv_network.specs.Centre.{Centre, new_centre}
use Rattle.pv_network.specs.Charging.{is_of_serial, shown_lines, line_at, lines_in_hand, call_of_line, line_in_hand, with_stops, IsStoppedCall, AreCharged, IsChargedWorld, ShowsFrameOf, SeatLaws}
use Rattle.pv_network.specs.Crashing.{step_of_lost_calls, step_of_crash}
use Rattle.pv_network.specs.Cutting.{node_of, update_request, stored_for, recorded_world, wish_of, is_stored_for, wished_world, taken_world, applied_world, stored_world, step_of_stop, step_of_cut}
use Rattle.pv_network.specs.declared.arrival.Arrival.{Arrival}
use Rattle.pv_network.specs.declared.arrival.Arrival.TheVariants as arrivals
use Rattle.pv_network.specs.declared.storing.Storing.{Storing}
use Rattle.pv_network.specs.declared.storing.Storing.TheVariants as commands
use Rattle.pv_traffic.specs.declared.way.Way.TheVariants as ways
use Rattle.pv_traffic.specs.Link.{packets_on, with_new_end, packet_room}
use Rattle.pv_network.specs.Keying.{KeyedByte, first_entry, is_owes, is_storing, step_of_payment, step_of_key, screens_in, is_over, keys_from, UnlessOver, TakesAll, keys_refusal, step_of_taken_keys}
use Rattle.pv_network.specs.Screens.{AreChoices}
use Rattle.pv_network.specs.Sound.{OwesItsReply, IsSound}
use Rattle.pv_network.specs.Editing.{seeded_frame}
use Rattle.pv_network.specs.Step.{Choice, IsChoice, happens, after}
use Rattle.pv_network.specs.Traffic.{arrival_on, with_next_at, no_load}
use Rattle.pv_network.specs.World.{World, StoppedCall, start, centre_at, link_at, with_link}
use Rattle.pv_network.proofs.ChargeLines.{shown_here, shown_elsewhere, stopped_before, stopped_with, stopped_by}
use Rattle.pv_network.proofs.Charging.{IsStoppedWith, frame_shown, recharged, dial_charged, press_charged, store_charged, show_charged, hang_charged, crash_charged}
use Rattle.pv_network.proofs.Soundness.{choice, copy_at, sound_press, sound_store, sound_key, sound_renewed, sound_stored_world, sound_happens}
use Rattle.pv_network.proofs.Untouched.{Books, books_at, request_same, line_same, sending_same, next_same, arriving_same, rounds_same}

-- ---- events at no port

-- a world with the same calls, lines and stopped calls is charged
pub charged_same : (w v : World) → ((c : ℕ) → books_at v c ≡ books_at w c) → IsChargedWorld w → IsChargedWorld v
charged_same w v same charged c =
    subst (λ (books : Books). AreCharged books.calls (shown_lines books.shown c) (IsStoppedCall books.stopped c)) (sym (same c)) (charged c)

-- ---- a centre

module _ (w : World) (c : ℕ) (charged : IsChargedWorld w) where
  abbrev shown : ℕ → List Charge
  shown = shown_lines w.shown c

  abbrev Stopped : ℕ → Type 0
  Stopped = IsStoppedCall w.stopped c

  -- with another in its place a centre is that one, or there is no such centre
  replaced : (l : List Centre) (i : ℕ) (x : Centre) → (get_or (set l i x) i new_centre ≡ x)
      ⊎ ((get_or (set l i x) i new_centre ≡ new_centre) × (get_or l i new_centre ≡ new_centre))
  replaced [] i x = inr (refl, refl)
  replaced (y ∷ l) zero x = inl refl
  replaced (y ∷ l) (suc i) x = replaced l i x

  -- other calls at the centre, other lines and other stopped calls, which leave those of other centres
  module _ (calls : Calls) (shown_now : List BillLine) (stopped_now : List StoppedCall)
      (same : (k : ℕ) → k ≢ c → (serial : ℕ) → shown_lines shown_now k serial ≡ shown_lines w.shown k serial)
      (on : (k : ℕ) → k ≢ c → (serial : ℕ) → IsStoppedCall w.stopped k serial → IsStoppedCall stopped_now k serial)
      (back : (k : ℕ) → k ≢ c → (serial : ℕ) → IsStoppedCall stopped_now k serial → IsStoppedCall w.stopped k serial)
      (here : AreCharged calls (shown_lines shown_now c) (IsStoppedCall stopped_now c))
      (gone : calls_at w c ≡ no_calls → AreCharged no_calls (shown_lines shown_now c) (IsStoppedCall stopped_now c)) where
    abbrev now : World
    now = record (with_calls w c calls) { shown = shown_now; stopped = stopped_now }

    at_it : AreCharged (calls_at now c) (shown_lines shown_now c) (IsStoppedCall stopped_now c)
    at_it = elim (replaced w.centres c (record (centre_at w c) { calls = calls })) [
      | inl is ↦ subst (λ (centre : Centre). AreCharged centre.calls (shown_lines shown_now c) (IsStoppedCall stopped_now c)) (sym is) here
      | inr none ↦
          subst (λ (centre : Centre). AreCharged centre.calls (shown_lines shown_now c) (IsStoppedCall stopped_now c)) (sym none.0)
          (gone (ap (λ (centre : Centre). centre.calls) none.1))
    ]

    at_other : (k : ℕ) → k ≢ c → AreCharged (calls_at now k) (shown_lines shown_now k) (IsStoppedCall stopped_now k)
    at_other k other =
        subst (λ (centre : Centre). AreCharged centre.calls (shown_lines shown_now k) (IsStoppedCall stopped_now k))
        (sym (get_or-set_other w.centres c k (record (centre_at w c) { calls = calls }) new_centre other))
        (recharged (calls_at w k) (shown_lines w.shown k) (shown_lines shown_now k) (IsStoppedCall w.stopped k)
        (IsStoppedCall stopped_now k)
        (same k other) (on k other) (back k other) (charged k))

    all_charged : IsChargedWorld now
    all_charged k = elim (eqb_tells k c) [
      | inl this ↦ subst (λ (n : ℕ). AreCharged (calls_at now n) (shown_lines shown_now n) (IsStoppedCall stopped_now n)) (sym this.1) at_it
      | inr other ↦ at_other k other.1
    ]

  -- other calls alone
  calls_charged : (calls : Calls) → AreCharged calls shown Stopped → IsChargedWorld (with_calls w c calls)
  calls_charged calls here =
      all_charged calls w.shown w.stopped (λ k other serial. refl) (λ k other serial gone. gone) (λ k other serial gone. gone) here
      (λ none. subst (λ (calls : Calls). AreCharged calls shown Stopped) none (charged c))

  -- what lines that are stopped with make of the stopped calls
  stops : (lines : List Charge) → IsStoppedWith Stopped (IsStoppedCall (w.stopped ++ map (call_of_line c) lines) c) lines
  stops lines = record {
    before = stopped_before w.stopped c lines c;
    now = stopped_with w.stopped c lines;
    either = λ serial gone. elim (stopped_by w.stopped c lines c serial gone) [
      | inl before ↦ inl before
      | inr now ↦ inr (now.0, now.1, now.3)
    ];
  }

  -- calls that end
  module _ (calls : Calls) (ended : List (Option Call)) where
    abbrev lines : List Charge
    lines = lines_in_hand ended

    stopped_charged : AreCharged calls shown (IsStoppedCall (w.stopped ++ map (call_of_line c) (lines_in_hand ended)) c)
        → (calls_at w c ≡ no_calls → lines_in_hand ended ≡ []) → IsChargedWorld (with_stops (with_calls w c calls) c ended)
    stopped_charged here none =
        all_charged calls w.shown (w.stopped ++ map (call_of_line c) lines) (λ k other serial. refl)
        (λ k other serial gone. stopped_before w.stopped c lines k serial gone)
        (λ k other serial gone. elim (stopped_by w.stopped c lines k serial gone) [
          | inl before ↦ before
          | inr now ↦ absurd (other (sym now.2))
        ])
        here
        (λ is. subst (λ (c_calls : Calls). AreCharged c_calls shown (IsStoppedCall (w.stopped ++ map (call_of_line c) lines) c)) is
        (recharged (calls_at w c) shown shown Stopped _ (λ serial. refl) (stopped_before w.stopped c lines c)
        (λ serial gone. elim (stopped_by w.stopped c lines c serial gone) [
          | inl before ↦ before
          | inr now ↦
              let there = subst (λ (l : List Charge). Contains l now.0) (none is) now.1 in absurd (omega (arith, there.1))
        ]) (charged c)))

  -- no centre has no line in hand
  free_port : (port : ℕ) → calls_at w c ≡ no_calls → lines_in_hand (call_at w c port ∷ []) ≡ []
  free_port port is = ap (λ (call : Option Call). lines_in_hand (call ∷ []))
      (ap (λ (calls : Calls). call_in calls port) is ∙ copy_at {X = Option Call} None PORTS port)

  free_ports : calls_at w c ≡ no_calls → lines_in_hand (calls_at w c).ports ≡ []
  free_ports is = ap (λ (calls : Calls). lines_in_hand calls.ports) is

  -- ---- the events at its ports

  pub charged_lost_calls : IsSound w → IsChargedWorld (step_of_lost_calls w c).0
  charged_lost_calls sound =
      stopped_charged _ (calls_at w c).ports
      (crash_charged (calls_at w c) shown Stopped _ (sound.calls c) (charged c) (stops (lines_in_hand (calls_at w c).ports))) free_ports

  module _ (port : ℕ) (sound : IsSound w) where
    pub charged_dial : SeatLaws → IsChargedWorld (step_of_dial w c port).0
    charged_dial laws =
        calls_charged _ (dial_charged (calls_at w c) shown Stopped port (sound.calls c) (charged c) laws (call_at w c port) refl)

    pub charged_press : SeatLaws → (key : ℕ) (entry : Option Entry) → IsPortEntry (call_at w c port) key entry
        → IsChargedWorld (step_of_press w c port key entry).0
    charged_press laws key entry says =
        calls_charged _ (press_charged (calls_at w c) shown Stopped port (sound.calls c) (charged c) laws key
        (view_at w c port) w.moment entry
        (call_at w c port) refl says)

    pub charged_store : IsChargedWorld (step_of_store w c port).0
    charged_store =
        calls_charged _ (store_charged (calls_at w c) shown Stopped port (sound.calls c) (charged c) _ (call_at w c port) refl)

    pub charged_hang : IsChargedWorld (step_of_hang w c port).0
    charged_hang =
        stopped_charged _ (call_at w c port ∷ [])
        (hang_charged (calls_at w c) shown Stopped _ (sound.calls c) (charged c) port (call_at w c port) refl
        (stops (lines_in_hand (call_at w c port ∷ [])))) (free_port port)

    abbrev in_hand : List Charge
    in_hand = lines_in_hand (call_at w c port ∷ [])

    pub charged_show : SeatLaws → IsChargedWorld (step_of_show w c port).0
    charged_show laws =
        all_charged _ (w.shown ++ map (line_at c) in_hand) w.stopped
        (λ k other serial. shown_elsewhere c w.shown in_hand k other serial ∙ append-nil (shown_lines w.shown k serial))
        (λ k other serial gone. gone) (λ k other serial gone. gone)
        (recharged _ (λ serial. shown serial ++ filter (is_of_serial serial) in_hand) (shown_lines (w.shown ++ map (line_at c) in_hand) c)
        Stopped Stopped (shown_here c w.shown in_hand) (λ serial gone. gone) (λ serial gone. gone)
        (show_charged (calls_at w c) shown Stopped port (sound.calls c) (charged c) laws (call_at w c port) refl))
        (λ is. subst (λ (calls : Calls). AreCharged calls (shown_lines (w.shown ++ map (line_at c) in_hand) c) Stopped) is
        (recharged (calls_at w c) shown (shown_lines (w.shown ++ map (line_at c) in_hand) c) Stopped Stopped
        (λ serial. shown_here c w.shown in_hand serial
        ∙ ap (λ (l : List Charge). shown serial ++ filter (is_of_serial serial) l) (free_port port is) ∙ append-nil (shown serial))
        (λ serial gone. gone) (λ serial gone. gone) (charged c)))

-- ---- keys

module _ (laws : SeatLaws) (c port : ℕ) where
  charged_payment : (w : World) → IsSound w → IsChargedWorld w → IsChargedWorld (step_of_payment w c port).0
  charged_payment w sound charged = choice IsChargedWorld (is_storing (step_of_store w c port).1) _ _
      (λ _. charged_show (step_of_store w c port).0 c stored port (sound_store w c port sound) laws) (λ _. stored)
    where
      stored : IsChargedWorld (step_of_store w c port).0
      stored = charged_store w c charged port sound

  charged_key : (w : World) (key : KeyedByte) → IsPortEntry (call_at w c port) key.byte key.entry → IsSound w → IsChargedWorld w
      → IsChargedWorld (step_of_key w c port key).0
  charged_key w key says sound charged = choice IsChargedWorld (is_owes (step_of_press w c port key.byte key.entry).1) _ _
      (λ _. charged_payment (step_of_press w c port key.byte key.entry).0 (sound_press w c port sound key.byte key.entry) pressed)
      (λ _. pressed)
    where
      pressed : IsChargedWorld (step_of_press w c port key.byte key.entry).0
      pressed = charged_press w c charged port sound laws key.byte key.entry says

  charged_keys : (w : World) (keys : List KeyedByte) → TakesAll w c port keys → IsSound w → IsChargedWorld w
      → IsChargedWorld (keys_from w c port keys).0
  charged_keys w [] are sound charged = charged
  charged_keys w (key ∷ keys) are sound charged =
      by (is_over (step_of_key w c port key).1) are.1
      (λ more. charged_keys (step_of_key w c port key).0 keys more (sound_key w c port key sound) first)
    where
      first : IsChargedWorld (step_of_key w c port key).0
      first = charged_key w key are.0 sound charged

      by : (over : Bool) → UnlessOver over (TakesAll (step_of_key w c port key).0 c port keys)
          → (TakesAll (step_of_key w c port key).0 c port keys → IsChargedWorld (keys_from (step_of_key w c port key).0 c port keys).0)
          → IsChargedWorld (cond {A = World × List Turn} over ((step_of_key w c port key).0, screens_in (step_of_key w c port key).1) (
            (keys_from (step_of_key w c port key).0 c port keys).0,
            screens_in (step_of_key w c port key).1 ++
                (keys_from (step_of_key w c port key).0 c port keys).1,
          )).0
      by true more rest = first
      by false more rest = rest more

  charged_taken : (w : World) (keys : List KeyedByte) (refusal : Option Outcome) → UnlessOver (is_some refusal) (TakesAll w c port keys)
      → IsSound w → IsChargedWorld w → IsChargedWorld (step_of_taken_keys w c port keys refusal).0
  charged_taken w keys (Some outcome) are sound charged = charged
  charged_taken w keys None are sound charged = charged_keys w keys are sound charged

-- ---- all

-- a record of the edit list is no charge
recorded_charges : (w : World) (stored : Option Record) → IsChargedWorld w → IfSome (recorded_world w stored) IsChargedWorld
recorded_charges w None charged = tt
recorded_charges w (Some edit) charged = charged

module _ (laws : SeatLaws) where
  crash_charges : (w : World) (node : NodeName) → IsSound w → IsChargedWorld w → IsChargedWorld (step_of_crash w node).0
  crash_charges w nodes.Udc sound charged = charged
  crash_charges w (nodes.Centre c) sound charged =
      charged_lost_calls (with_link w c (with_new_end ways.Up (link_at w c))) c charged (sound_renewed w c sound)

  -- so it does with what a command stores
  stored_charges : (w : World) (command : Storing) (said : Option EditLine) → IsSound w → IsChargedWorld w
      → IfSome (stored_world w command said) IsChargedWorld
  stored_charges w (commands.Seed name row) said sound charged =
      recorded_charges w (stored_for w.update (update_request w (commands.Seed name row) said)) charged
  stored_charges w (commands.Edit port line) said sound charged =
      recorded_charges w (stored_for w.update (update_request w (commands.Edit port line) said)) charged
  stored_charges w (commands.Back centre index) said sound charged =
      recorded_charges w (stored_for w.update (update_request w (commands.Back centre index) said)) charged
  stored_charges w (commands.Store centre port) said sound charged = by (wish_of (call_at w centre port))
    where
      if_stored : (test : Bool) → IfSome (cond test (Some (step_of_store w centre port).0) None) IsChargedWorld
      if_stored true = charged_store w centre charged port sound
      if_stored false = tt

      by : (wish : Option Wish) → IfSome (wish >>= wished_world w centre port) IsChargedWorld
      by None = tt
      by (Some wish) = if_stored (is_stored_for (holdings_at w centre) wish)
  stored_charges w (commands.Deliver centre index) said sound charged = by (slice_get (packets_on ways.Down (link_at w centre)) index)
    where
      taken : (how : Arrival) → IfSome (taken_world w centre how) IsChargedWorld
      taken arrivals.Taken = charged_same w (with_next_at w centre) (λ c. next_same c w centre) charged
      taken arrivals.Old = tt
      taken arrivals.Early = tt
      taken arrivals.Full = tt

      of_packet : (packet : Packet) → IfSome (applied_world w centre packet) IsChargedWorld
      of_packet (Down from number rec) = taken (arrival_on ways.Down w centre number)
      of_packet (Up from number item) = tt
      of_packet (DownHeard from count) = tt
      of_packet (UpHeard from count) = tt

      by : (found : Option Packet) → IfSome (found >>= applied_world w centre) IsChargedWorld
      by None = tt
      by (Some packet) = of_packet packet

  -- and if a node is lost within it
  cut_charges : (w : World) (command : Storing) (kept : Bool) (said : Option EditLine) → IsSound w → IsChargedWorld w
      → IsChargedWorld (step_of_cut w command kept said).0
  cut_charges w command kept said sound charged =
      by (stored_world w command said) (sound_stored_world w command said sound) (stored_charges w command said sound charged) kept
    where
      by : (stored : Option World) → IfSome stored IsSound → IfSome stored IsChargedWorld → (kept : Bool)
          → IsChargedWorld (step_of_stop w (node_of command) stored kept).0
      by None is are kept = crash_charges w (node_of command) sound charged
      by (Some v) is are true = crash_charges v (node_of command) is are
      by (Some v) is are false = crash_charges w (node_of command) sound charged

  -- a charged world stays charged whatever event happens
  charged_happens : (w : World) (event : Event) (choice : Choice) → IsChoice w event choice → IsSound w → IsChargedWorld w
      → IsChargedWorld (happens w event choice).0
  charged_happens w (events.Seed name row) choice is sound charged =
      charged_same w (happens w (events.Seed name row) choice).0
      (λ c. request_same c w OPERATOR (next_number w.update.records OPERATOR) (Put name (seeded_frame row))) charged
  charged_happens w (events.Edit port line) choice is sound charged =
      charged_same w (happens w (events.Edit port line) choice).0 (λ c. line_same c w port choice.said) charged
  charged_happens w (events.Dial centre port) choice is sound charged = charged_dial w centre charged port sound laws
  charged_happens w (events.Press centre port key) choice is sound charged =
      charged_press w centre charged port sound laws key (first_entry choice.keyed) is
  charged_happens w (events.Keys centre port keys) choice is sound charged =
      charged_taken laws centre port w choice.keyed (keys_refusal (call_at w centre port)) is.1 sound charged
  charged_happens w (events.Store centre port) choice is sound charged = charged_store w centre charged port sound
  charged_happens w (events.Show centre port) choice is sound charged = charged_show w centre charged port sound laws
  charged_happens w (events.Hang centre port) choice is sound charged = charged_hang w centre charged port sound
  charged_happens w (events.Send centre) choice is sound charged =
      charged_same w (happens w (events.Send centre) choice).0 (λ c. sending_same c ways.Down w centre) charged
  charged_happens w (events.Post centre) choice is sound charged =
      charged_same w (happens w (events.Post centre) choice).0 (λ c. sending_same c ways.Up w centre) charged
  charged_happens w (events.Deliver centre index) choice is sound charged =
      charged_same w (happens w (events.Deliver centre index) choice).0 (λ c. arriving_same c ways.Down w centre index) charged
  charged_happens w (events.Back centre index) choice is sound charged =
      charged_same w (happens w (events.Back centre index) choice).0 (λ c. arriving_same c ways.Up w centre index) charged
  charged_happens w (events.Carry centre) choice is sound charged =
      charged_same w (happens w (events.Carry centre) choice).0
      (λ c. rounds_same c (packet_room w.links + 1) centre w ways.Down no_load) charged
  charged_happens w (events.Crash node) choice is sound charged = crash_charges w node sound charged
  charged_happens w (events.Cut calls image command) choice is sound charged =
      cut_charges w command choice.kept choice.said sound charged
  charged_happens w (events.Clock moment) choice is sound charged = charged
  charged_happens w (events.View centre name) choice is sound charged = charged
  charged_happens w (events.At centre) choice is sound charged = charged
  charged_happens w events.List choice is sound charged = charged
  charged_happens w (events.Bill account) choice is sound charged = charged
  charged_happens w (events.Lines centre) choice is sound charged = charged

  -- and so it does however many events happen
  pub charged_after : (w : World) (events : List (Event × Choice)) → AreChoices w events → IsSound w → IsChargedWorld w
      → IsChargedWorld (after w events)
  charged_after w [] are sound charged = charged
  charged_after w (event ∷ events) are sound charged =
      charged_after (happens w event.0 event.1).0 events are.1 (sound_happens w event.0 event.1 sound)
      (charged_happens w event.0 event.1 are.0 sound charged)

-- the start is charged
pub charged_start : (centres : ℕ) (limits : Limits) → IsChargedWorld (start centres limits)
charged_start centres limits c =
    rw (copy_at new_centre centres c) (record {
      owed = λ serial. inl refl;
      given = λ serial later. refl;
      stopped = λ serial gone. absurd (omega (arith, gone.1));
      each = λ port call is. let none : None ≡ Some call = sym (copy_at {X = Option Call} None PORTS port) ∙ is in absurd cc;
    })

-- ---- the frame of a line

-- a line in hand is of the frame that is shown next, and then it is one of those that were shown
pub shown_for_line : (w : World) (c port : ℕ) (call : Call) (line : Charge) → IsSound w → IsChargedWorld w → call_at w c port ≡ Some call
    → line_in_hand call ≡ Some line
    → ShowsFrameOf line (step_of_show w c port).1 × ((step_of_show w c port).0.shown ≡ w.shown ++ line_at c line ∷ [])
shown_for_line w c port call line sound charged is in_hand = (
  subst (λ (there : Option Call). ShowsFrameOf line (show_at (calls_at w c) port there).1) (sym is)
      (frame_shown call line ((charged c).each port call is).seat in_hand (calls_at w c) port
      (subst (λ (there : Option Call). IfSome there OwesItsReply) is ((sound.calls c).replies port))),
  ap (λ (l : List Charge). w.shown ++ map (line_at c) l)
      (ap (λ (there : Option Call). lines_in_hand (there ∷ [])) is ∙ ap (λ (l : Option Charge). cons_option l []) in_hand),
)
