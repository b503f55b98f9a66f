-- What an event makes of the charges of a centre's calls.
use Rattle.std.proofs.Common.{◌≡◌, ◌≢◌, ℕ, zero, suc, ◌+◌, ◌<◌, ◌≤◌, ◌⊎◌, Bool, true, false, cond, List, [], ◌∷◌, ◌++◌, length, get_or, set, Option, Some, None, refl, sym, ap, subst, ◌∙◌, inl, inr, arith}
use Rattle.std.specs.Prelude.{Contains, IfSome, IsSome, is_some, option_to_list}
use Rattle.std.specs.List.{filter, cons_option}
use Rattle.std.proofs.lemmas.Bool.Decides.{eqb_tells}
use Rattle.std.proofs.lemmas.List.{append-nil, length-append, get_or-set_other}
use Rattle.pv_charge.specs.Line.{Charge}
use Rattle.pv_edits.specs.Sight.{View}
use Rattle.pv_fields.specs.Reading.{◌>>=◌}
use Rattle.pv_post.specs.declared.item.Item.{Item}
use Rattle.pv_post.specs.declared.item.Item.TheVariants as items
use Rattle.pv_session.specs.declared.entry.Entry.{Entry}
use Rattle.pv_session.specs.declared.step.Paid.{Paid}
use Rattle.pv_session.specs.declared.step.Paid.TheVariants.{Serial, Stored}
use Rattle.pv_session.specs.declared.step.Phase.{Phase}
use Rattle.pv_session.specs.declared.step.Phase.TheVariants.{Listening, Owing, Over}
use Rattle.pv_session.specs.declared.step.Step.{Step}
use Rattle.pv_session.specs.declared.step.Step.TheVariants as steps
use Rattle.pv_session.specs.declared.step.Wish.{Wish}
use Rattle.pv_session.specs.declared.step.Wish.TheVariants as wishes
use Rattle.pv_session.specs.Callers.{sender_of, IsOwn, IsOwnCharge, IsCallState}
use Rattle.pv_session.specs.Calls.{Keyed, Stored as CallStored, Happens, lines_after, IsSameCaller}
use Rattle.pv_session.specs.State.{CallState, is_owing, wish_in}
use Rattle.pv_session.specs.Shown.{ShownFrame}
use Rattle.pv_session.specs.Turns.{charged_turn, storing_turn}
use Rattle.pv_network.specs.declared.event.TheConstants.{PORTS}
use Rattle.pv_network.specs.declared.outcome.Outcome.TheVariants as outcomes
use Rattle.pv_network.specs.Call.{Call, call_of, first_call, is_waiting, wish_to_store, serial_with, serial_of, key_turn}
use Rattle.pv_network.specs.Calls.{Calls, Holdings, lacks_room, call_in, with_call, step_answer, call_after, turn_at, dial_at, hang_at, press_at, with_wish, storing_unless, storing_at, store_at, showing_at, show_at, IsEntryUnlessWaiting, IsPortEntry}
use Rattle.pv_network.specs.Charging.{wish_charge, line_in_hand, lines_in_hand, lines_with, is_of_serial, IsInHand, AreOwedLines, HasLines, IsChargedCall, AreCharged, ShowsFrameOf, SeatLaws}
use Rattle.pv_network.specs.Crashing.{without_calls}
use Rattle.pv_network.specs.Sound.{serial_in, Answers, OwesItsReply, IsSoundCalls}
use Rattle.pv_network.proofs.ChargeLines.{lines_with-append, its_own, not_its_own, from_filter_map, into_filter_map}
use Rattle.pv_network.proofs.KeyTurns.{entry_turns}
use Rattle.pv_network.proofs.Lists.{read_again, read_new, read_there, present}
use Rattle.pv_network.proofs.SoundCalls.{none_stored, to_store, storing_serial, answers_at}
use Rattle.pv_network.proofs.Soundness.{copy_at}

-- a value is the one that there is
some_is : {X : Type 0} {x y : X} → Some x ≡ Some y → x ≡ y
some_is is = cc

-- ---- the line in hand

module _ (call : Call) (line : Charge) (seat : IsCallState call.seat) (in_hand : line_in_hand call ≡ Some line) where
  -- it is the call's own
  hand_own : IsOwnCharge call.seat line
  hand_own = by call.stored call.seat.phase seat.owed in_hand
    where
      charged : (wish : Wish) → IsOwn call.seat wish → wish_charge wish ≡ Some line → IsOwnCharge call.seat line
      charged (wishes.LogOn account) own is = absurd cc
      charged (wishes.Charge other) own is = let same : other ≡ line = cc in subst (IsOwnCharge call.seat) same own
      charged (wishes.Post item) own is = absurd cc
      charged (wishes.Remove account number) own is = absurd cc

      by : (stored : Option Paid) (phase : Phase) → IfSome (wish_in phase) (IsOwn call.seat)
          → cond (is_some stored) (wish_in phase >>= wish_charge) None ≡ Some line → IsOwnCharge call.seat line
      by None phase own is = absurd cc
      by (Some reply) Listening own is = absurd cc
      by (Some reply) (Owing wish) own is = charged wish own is
      by (Some reply) Over own is = absurd cc

  -- what was stored for it is no log-on, so that its serial is its seat's
  hand_serial : OwesItsReply call → serial_of call ≡ Some line.serial
  hand_serial replies = by call.stored call.seat.phase replies in_hand ∙ hand_own.serial
    where
      by : (stored : Option Paid) (phase : Phase) → IfSome stored (Answers phase)
          → cond (is_some stored) (wish_in phase >>= wish_charge) None ≡ Some line → serial_with stored call.seat.serial ≡ call.seat.serial
      by None phase fits is = absurd cc
      by (Some Stored) phase fits is = refl
      by (Some (Serial serial)) Listening fits is = absurd cc
      by (Some (Serial serial)) (Owing (wishes.LogOn account)) fits is = absurd cc
      by (Some (Serial serial)) (Owing (wishes.Charge charge)) fits is = absurd fits
      by (Some (Serial serial)) (Owing (wishes.Post item)) fits is = absurd fits
      by (Some (Serial serial)) (Owing (wishes.Remove account number)) fits is = absurd fits
      by (Some (Serial serial)) Over fits is = absurd cc

  -- what its seat owes is the charge, and the reply says that it was stored
  pub hand_is : OwesItsReply call → (call.stored ≡ Some Stored) × (call.seat.phase ≡ Owing (wishes.Charge line))
  hand_is replies = by call.stored call.seat.phase replies in_hand
    where
      by : (stored : Option Paid) (phase : Phase) → IfSome stored (Answers phase)
          → cond (is_some stored) (wish_in phase >>= wish_charge) None ≡ Some line
          → (stored ≡ Some Stored) × (phase ≡ Owing (wishes.Charge line))
      by None phase fits is = absurd cc
      by (Some Stored) Listening fits is = absurd cc
      by (Some Stored) (Owing (wishes.LogOn account)) fits is = absurd cc
      by (Some Stored) (Owing (wishes.Charge charge)) fits is = let same : charge ≡ line = cc in
          (refl, ap (λ (l : Charge). Owing (wishes.Charge l)) same)
      by (Some Stored) (Owing (wishes.Post item)) fits is = absurd cc
      by (Some Stored) (Owing (wishes.Remove account number)) fits is = absurd cc
      by (Some Stored) Over fits is = absurd cc
      by (Some (Serial serial)) Listening fits is = absurd cc
      by (Some (Serial serial)) (Owing (wishes.LogOn account)) fits is = absurd cc
      by (Some (Serial serial)) (Owing (wishes.Charge charge)) fits is = absurd fits
      by (Some (Serial serial)) (Owing (wishes.Post item)) fits is = absurd fits
      by (Some (Serial serial)) (Owing (wishes.Remove account number)) fits is = absurd fits
      by (Some (Serial serial)) Over fits is = absurd cc

  -- the reply to it shows the frame that was kept aside
  pub frame_shown : (calls : Calls) (port : ℕ) → OwesItsReply call → ShowsFrameOf line (show_at calls port (Some call)).1
  frame_shown calls port replies =
      let is = hand_is replies in
      let aside = hand_own.aside in
      record {
        frame = aside.0;
        line_is = aside.2;
        shows = ap (λ (stored : Option Paid). (showing_at calls port call.seat stored).1) is.0
            ∙ ap (λ (phase : Phase). step_answer (storing_turn call.seat phase Stored).1) is.1
            ∙ ap (λ (kept : Option ShownFrame). step_answer (charged_turn call.seat kept).1) aside.1;
      }

-- ---- lists that say the same

module _ (calls : Calls) (shown now : ℕ → List Charge) (Stopped Gone : ℕ → Type 0) where
  pub recharged : ((serial : ℕ) → now serial ≡ shown serial) → ((serial : ℕ) → Stopped serial → Gone serial)
      → ((serial : ℕ) → Gone serial → Stopped serial) → AreCharged calls shown Stopped → AreCharged calls now Gone
  recharged same on back charged = record {
    owed = λ serial. elim (charged.owed serial) [
      | inl is ↦ inl (is ∙ sym (same serial))
      | inr more ↦ inr (record {
        line = more.line;
        one_more = more.one_more ∙ ap (λ (l : List Charge). l ++ more.line ∷ []) (sym (same serial));
        why = elim more.why [ inl hand ↦ inl hand | inr gone ↦ inr (on serial gone) ];
      })
    ];
    given = charged.given;
    stopped = λ serial gone. charged.stopped serial (back serial gone);
    each = λ port call there.
        let is = charged.each port call there in
        record {
          seat = is.seat;
          lines = λ serial has.
              let lines = is.lines serial has in
              record {
                lines = lines.lines ∙ ap (λ (l : List Charge). l ++ option_to_list (line_in_hand call)) (sym (same serial));
                count = lines.count ∙ ap (λ (l : List Charge). length l) (sym (same serial));
                going = λ gone. lines.going (back serial gone);
              };
        };
  }

-- ---- another call at a port

module _ (calls after : Calls) (shown now : ℕ → List Charge) (Stopped Gone : ℕ → Type 0) (port : ℕ) (new : Option Call)
    (ports : after.ports ≡ set calls.ports port new) where
  -- the call of a serial has the lines that it had, and no other call at the port has one of them in hand
  pub record IsElsewhere (serial : ℕ) : Type 0 where
    pub stored : lines_with after.items serial ≡ lines_with calls.items serial
    pub shown_is : now serial ≡ shown serial
    pub on : Stopped serial → Gone serial
    pub back : Gone serial → Stopped serial
    pub no_hand : (call : Call) → call_in calls port ≡ Some call → call.seat.serial ≡ Some serial → line_in_hand call ≡ None

  -- the call at the port has the serial, and the law holds of it; or it is that of another
  abbrev pub IsMoved : ℕ → Type 0
  IsMoved serial = ((serial_in calls port ≡ Some serial) × AreOwedLines after now Gone serial) ⊎ IsElsewhere serial

  -- a call at another port is there
  other_call : (k : ℕ) → k ≢ port → call_in after k ≡ call_in calls k
  other_call k other = ap (λ (l : List (Option Call)). get_or l k None) ports ∙ get_or-set_other calls.ports port k new None other

  -- the new one is at this
  this_call : (call : Call) → call_in after port ≡ Some call → new ≡ Some call
  this_call call is = read_new calls.ports port new call (ap (λ (l : List (Option Call)). get_or l port None) (sym ports) ∙ is)

  module _ (sound : IsSoundCalls calls) (charged : AreCharged calls shown Stopped) (moves : (serial : ℕ) → IsMoved serial) where
    owed_after : (serial : ℕ) → AreOwedLines after now Gone serial
    owed_after serial = elim (moves serial) [
      | inl this ↦ this.1
      | inr there ↦ elim (charged.owed serial) [
        | inl is ↦ inl (there.stored ∙ is ∙ sym there.shown_is)
        | inr more ↦ inr (record {
          line = more.line;
          one_more = there.stored ∙ more.one_more ∙ ap (λ (l : List Charge). l ++ more.line ∷ []) (sym there.shown_is);
          why = elim more.why [ inl hand ↦ inl (held there more.line hand) | inr gone ↦ inr (there.on gone) ];
        })
      ]
    ]
      where
        held : IsElsewhere serial → (line : Charge) → IsInHand calls serial line → IsInHand after serial line
        held there line hand = elim (eqb_tells hand.port port) [
          | inl here ↦
              let at : call_in calls port ≡ Some hand.call = ap (call_in calls) (sym here.1) ∙ hand.there in
              let none : Some line ≡ None = sym hand.in_hand ∙ there.no_hand hand.call at hand.serial_is in
              absurd cc
          | inr away ↦ record {
            port = hand.port;
            call = hand.call;
            there = other_call hand.port away.1 ∙ hand.there;
            serial_is = hand.serial_is;
            in_hand = hand.in_hand;
          }
        ]

    each_after : ((call : Call) → new ≡ Some call → IsChargedCall after.items now Gone call)
        → (k : ℕ) (call : Call) → call_in after k ≡ Some call → IsChargedCall after.items now Gone call
    each_after this k call is = elim (eqb_tells k port) [
      | inl here ↦ this call (this_call call (ap (call_in after) (sym here.1) ∙ is))
      | inr away ↦
          let there : call_in calls k ≡ Some call = sym (other_call k away.1) ∙ is in
          let was = charged.each k call there in
          record {
            seat = was.seat;
            lines = λ serial has. kept there away.1 serial has (was.lines serial has) (moves serial);
          }
    ]
      where
        kept : call_in calls k ≡ Some call → k ≢ port → (serial : ℕ) → serial_of call ≡ Some serial
            → HasLines call (lines_with calls.items serial) (shown serial) (Stopped serial) → IsMoved serial
            → HasLines call (lines_with after.items serial) (now serial) (Gone serial)
        kept there other serial has was (inl this) =
            absurd (other (sound.differ k port serial (ap (λ (c : Option Call). c >>= serial_of) there ∙ has) this.0))
        kept there other serial has was (inr same) = record {
          lines = same.stored ∙ was.lines ∙ ap (λ (l : List Charge). l ++ option_to_list (line_in_hand call)) (sym same.shown_is);
          count = was.count ∙ ap (λ (l : List Charge). length l) (sym same.shown_is);
          going = λ gone. was.going (same.back gone);
        }

    pub moved : ((serial : ℕ) → after.log_ons ≤ serial → lines_with after.items serial ≡ [])
        → ((serial : ℕ) → Gone serial → serial < after.log_ons)
        → ((call : Call) → new ≡ Some call → IsChargedCall after.items now Gone call) → AreCharged after now Gone
    moved given stopped this = record { owed = owed_after; given = given; stopped = stopped; each = each_after this }

-- ---- a call whose lines stay

module _ (calls : Calls) (shown : ℕ → List Charge) (Stopped : ℕ → Type 0) (port : ℕ) (sound : IsSoundCalls calls)
    (charged : AreCharged calls shown Stopped) where
  -- no serial from the count of log-ons on has a line that was shown
  pub none_shown : (serial : ℕ) → calls.log_ons ≤ serial → shown serial ≡ []
  none_shown serial later = elim (charged.owed serial) [
    | inl is ↦ sym is ∙ charged.given serial later
    | inr more ↦
        let none : [] ≡ shown serial ++ more.line ∷ [] = sym (charged.given serial later) ∙ more.one_more in
        let long = ap (λ (l : List Charge). length l) none in
        absurd (omega (arith, long, length-append (shown serial) (more.line ∷ [])))
  ]

  -- no line is stored, the call there had none in hand, and the one that is there now is charged rightly
  pub lines_stay : (after : Calls) (new : Option Call) → after.ports ≡ set calls.ports port new → calls.log_ons ≤ after.log_ons
      → ((serial : ℕ) → lines_with after.items serial ≡ lines_with calls.items serial)
      → ((call : Call) → call_in calls port ≡ Some call → line_in_hand call ≡ None)
      → ((call : Call) → new ≡ Some call → IsChargedCall after.items shown Stopped call) → AreCharged after shown Stopped
  lines_stay after new ports more same no_hand this =
      moved calls after shown shown Stopped Stopped port new ports sound charged
      (λ serial. inr (record {
        stored = same serial;
        shown_is = refl;
        on = λ gone. gone;
        back = λ gone. gone;
        no_hand = λ call there has. no_hand call there;
      }))
      (λ serial later. same serial ∙ charged.given serial (omega (arith, later, more)))
      (λ serial gone. let less = charged.stopped serial gone in omega (arith, less, more)) this

-- ---- a turn of the seat

-- a call without a reply has no line in hand
no_line : (call : Call) → call.stored ≡ None → line_in_hand call ≡ None
no_line call none = ap (λ (stored : Option Paid). cond (is_some stored) (wish_in call.seat.phase >>= wish_charge) None) none

-- what owes no charge has none in hand
no_charge : (call : Call) (wish : Wish) → wish_charge wish ≡ None → wish_in call.seat.phase ≡ Some wish → line_in_hand call ≡ None
no_charge call wish none is = by call.stored
  where
    by : (stored : Option Paid) → cond (is_some stored) (wish_in call.seat.phase >>= wish_charge) None ≡ None
    by None = refl
    by (Some reply) = ap (λ (owed : Option Wish). owed >>= wish_charge) is ∙ none

module _ (calls : Calls) (shown : ℕ → List Charge) (Stopped : ℕ → Type 0) (port : ℕ) (sound : IsSoundCalls calls)
    (charged : AreCharged calls shown Stopped) where
  -- a call at the port, with nothing in hand
  module _ (call : Call) (there : call_in calls port ≡ Some call) (empty : line_in_hand call ≡ None) where
    -- it is the one that is there
    only_this : (other : Call) → call_in calls port ≡ Some other → line_in_hand other ≡ None
    only_this other is = let same : Some call ≡ Some other = sym there ∙ is in let one : call ≡ other = cc in
        subst (λ (c : Call). line_in_hand c ≡ None) one empty

    was : IsChargedCall calls.items shown Stopped call
    was = charged.each port call there

    -- it is over
    pub call_ends : AreCharged (with_call calls port None) shown Stopped
    call_ends =
        lines_stay calls shown Stopped port sound charged (with_call calls port None) None refl (omega arith) (λ serial. refl) only_this
        (λ other is. absurd cc)

    -- its seat goes on with the same serial and as many lines
    pub seat_goes_on : (turn : CallState × Step) → IsCallState turn.0 → turn.0.serial ≡ serial_of call → turn.0.lines ≡ call.seat.lines
        → AreCharged (turn_at calls port turn).0 shown Stopped
    seat_goes_on (seat, step) is serial count = by step
      where
        now : IsChargedCall calls.items shown Stopped (call_of seat)
        now = record {
          seat = is;
          lines = λ s has.
              let lines = was.lines s (sym serial ∙ has) in
              record {
                lines = lines.lines ∙ ap (λ (line : Option Charge). shown s ++ option_to_list line) empty;
                count = count ∙ lines.count;
                going = lines.going;
              };
        }

        on : AreCharged (with_call calls port (Some (call_of seat))) shown Stopped
        on = lines_stay calls shown Stopped port sound charged (with_call calls port (Some (call_of seat)))
            (Some (call_of seat)) refl (omega arith)
            (λ s. refl) only_this
            (λ other same. let one : call_of seat ≡ other = cc in subst (IsChargedCall calls.items shown Stopped) one now)

        by : (step : Step) → AreCharged (turn_at calls port (seat, step)).0 shown Stopped
        by steps.Quiet = on
        by (steps.Show screen) = on
        by (steps.Owe wish) = on
        by (steps.Ended why screen) = call_ends

  -- ---- dial, press

  pub dial_charged : SeatLaws → (call : Option Call) → call_in calls port ≡ call → AreCharged (dial_at calls port call).0 shown Stopped
  dial_charged laws None is =
      lines_stay calls shown Stopped port sound charged (with_call calls port (Some first_call)) (Some first_call) refl (omega arith)
      (λ serial. refl)
      (λ call there. let none : None ≡ Some call = sym is ∙ there in absurd cc)
      (λ call same.
      let one : first_call ≡ call = cc in
      subst (IsChargedCall calls.items shown Stopped) one (record { seat = laws.begins; lines = λ serial has. absurd cc }))
  dial_charged laws (Some call) is = charged

  pub press_charged : SeatLaws → (key : ℕ) (view : View) (moment : ℕ) (entry : Option Entry) (call : Option Call)
      → call_in calls port ≡ call
      → IsPortEntry call key entry → AreCharged (press_at calls port key view moment entry call).0 shown Stopped
  press_charged laws key view moment entry None is says = charged
  press_charged laws key view moment entry (Some call) is says = by (is_waiting call) refl says
    where
      by : (waiting : Bool) → is_waiting call ≡ waiting → IsEntryUnlessWaiting waiting call key entry
          → AreCharged (cond waiting (calls, outcomes.Owing) (turn_at calls port (key_turn call.seat key view moment entry))).0 shown
          Stopped
      by true waits said = charged
      by false free said =
          let none = none_stored (is_owing call.seat.phase) call.stored free in
          let was = (charged.each port call is).seat in
          let turns = entry_turns call.seat key view moment entry said in
          let next = key_turn call.seat key view moment entry in
          let same = laws.stays call.seat next.0 (Keyed key view moment) next.1 was turns in
          seat_goes_on call is (no_line call none) next (laws.lasts call.seat next.0 (Keyed key view moment) next.1 was turns)
          (same.serial ∙ ap (λ (stored : Option Paid). serial_with stored call.seat.serial) (sym none))
          same.lines

  -- ---- store

  -- a log-on is counted, and its serial is that count
  log_on_charged : (holdings : Holdings) (call : Call) (account : ℕ) → call_in calls port ≡ Some call → call.stored ≡ None
      → wish_in call.seat.phase ≡ Some (wishes.LogOn account)
      → AreCharged (with_wish holdings calls port call (wishes.LogOn account)) shown Stopped
  log_on_charged holdings call account is none owes =
      lines_stay calls shown Stopped port sound charged (with_wish holdings calls port call (wishes.LogOn account))
      (Some new) refl (omega arith)
      (λ serial. refl) (only_this call is (no_line call none))
      (λ other same. let one : new ≡ other = cc in subst (IsChargedCall calls.items shown Stopped) one now)
    where
      new : Call
      new = record call { stored = Some (Serial calls.log_ons) }

      own : IsCallState call.seat
      own = (charged.each port call is).seat

      unnamed : call.seat.serial ≡ None
      unnamed = (subst (λ (wish : Option Wish). IfSome wish (IsOwn call.seat)) owes own.owed).1

      none_yet : shown calls.log_ons ≡ []
      none_yet = none_shown calls shown Stopped port sound charged calls.log_ons (omega arith)

      first : HasLines new (lines_with calls.items calls.log_ons) (shown calls.log_ons) (Stopped calls.log_ons)
      first = record {
        lines = charged.given calls.log_ons (omega arith) ∙ sym (ap (λ (l : List Charge). l ++ []) none_yet)
            ∙ ap (λ (line : Option Charge). shown calls.log_ons ++ option_to_list line)
            (sym (no_charge new (wishes.LogOn account) refl owes));
        count = own.lines unnamed ∙ sym (ap (λ (l : List Charge). length l) none_yet);
        going = λ gone. let less = charged.stopped calls.log_ons gone in absurd (omega (arith, less));
      }

      now : IsChargedCall calls.items shown Stopped new
      now = record {
        seat = own;
        lines = λ serial has.
            let one : calls.log_ons ≡ serial = cc in
            subst (λ (s : ℕ). HasLines new (lines_with calls.items s) (shown s) (Stopped s)) one first;
      }

  -- the line of a charge is the last of its call's, and in hand
  charge_charged : (holdings : Holdings) (call : Call) (line : Charge) → call_in calls port ≡ Some call → call.stored ≡ None
      → wish_in call.seat.phase ≡ Some (wishes.Charge line)
      → AreCharged (with_wish holdings calls port call (wishes.Charge line)) shown Stopped
  charge_charged holdings call line is none owes =
      moved calls after shown shown Stopped Stopped port (Some new) refl sound charged moves
      (λ serial later. kept serial (λ same. let less = below in absurd (omega (arith, later, same, less))) ∙ charged.given serial later)
      charged.stopped
      (λ other same. let one : new ≡ other = cc in subst (IsChargedCall after.items shown Stopped) one now)
    where
      new : Call
      new = record call { stored = Some Stored }

      after : Calls
      after = with_wish holdings calls port call (wishes.Charge line)

      was : IsChargedCall calls.items shown Stopped call
      was = charged.each port call is

      own : IsOwnCharge call.seat line
      own = subst (λ (wish : Option Wish). IfSome wish (IsOwn call.seat)) owes was.seat.owed

      in_hand : line_in_hand new ≡ Some line
      in_hand = ap (λ (wish : Option Wish). wish >>= wish_charge) owes

      has : serial_of call ≡ Some line.serial
      has = ap (λ (stored : Option Paid). serial_with stored call.seat.serial) none ∙ own.serial

      here : serial_in calls port ≡ Some line.serial
      here = ap (λ (c : Option Call). c >>= serial_of) is ∙ has

      below : line.serial < calls.log_ons
      below = sound.below port line.serial here

      -- what its lines were, and what they are
      before : (serial : ℕ) → serial ≡ line.serial → HasLines call (lines_with calls.items serial) (shown serial) (Stopped serial)
      before serial same = was.lines serial (has ∙ ap Some (sym same))

      now_lines : (serial : ℕ) → serial ≡ line.serial → lines_with after.items serial ≡ shown serial ++ line ∷ []
      now_lines serial same =
          lines_with-append calls.items (items.Charge line ∷ []) serial
          ∙ ap (λ (l : List Charge). lines_with calls.items serial ++ l) (its_own line serial same)
          ∙ ap (λ (l : List Charge). l ++ line ∷ []) ((before serial same).lines
          ∙ ap (λ (l : Option Charge). shown serial ++ option_to_list l) (no_line call none) ∙ append-nil (shown serial))

      kept : (serial : ℕ) → (serial ≢ line.serial) → lines_with after.items serial ≡ lines_with calls.items serial
      kept serial other =
          lines_with-append calls.items (items.Charge line ∷ []) serial
          ∙ ap (λ (l : List Charge). lines_with calls.items serial ++ l) (not_its_own line serial other)
          ∙ append-nil (lines_with calls.items serial)

      moves : (serial : ℕ) → IsMoved calls after shown shown Stopped Stopped port (Some new) refl serial
      moves serial = elim (eqb_tells serial line.serial) [
        | inl same ↦ inl (
          here ∙ ap Some (sym same.1),
          inr (record {
            line = line;
            one_more = now_lines serial same.1;
            why = inl (record {
              port = port;
              call = new;
              there = read_there calls.ports port call is (Some new);
              serial_is = own.serial ∙ ap Some (sym same.1);
              in_hand = in_hand;
            });
          }),
        )
        | inr other ↦ inr (record {
          stored = kept serial other.1;
          shown_is = refl;
          on = λ gone. gone;
          back = λ gone. gone;
          no_hand = λ c there serial_is. only_this call is (no_line call none) c there;
        })
      ]

      now : IsChargedCall after.items shown Stopped new
      now = record {
        seat = was.seat;
        lines = λ serial is_its.
            let same : line.serial ≡ serial = some_is (sym own.serial ∙ is_its) in
            let old = before serial (sym same) in
            record {
              lines = now_lines serial (sym same) ∙ ap (λ (l : Option Charge). shown serial ++ option_to_list l) (sym in_hand);
              count = old.count;
              going = old.going;
            };
      }

  -- what is stored for another wish is no line
  module _ (call : Call) (wish : Wish) (is : call_in calls port ≡ Some call) (none : call.stored ≡ None)
      (owes : wish_in call.seat.phase ≡ Some wish) (free : wish_charge wish ≡ None) where
    stored_charged : (after : Calls) → after.ports ≡ set calls.ports port (Some (record call { stored = Some Stored }))
        → calls.log_ons ≤ after.log_ons → ((serial : ℕ) → lines_with after.items serial ≡ lines_with calls.items serial)
        → AreCharged after shown Stopped
    stored_charged after ports more same =
        lines_stay calls shown Stopped port sound charged after (Some new) ports more same (only_this call is (no_line call none))
        (λ other one. subst (IsChargedCall after.items shown Stopped) (some_is one) now)
      where
        new : Call
        new = record call { stored = Some Stored }

        was : IsChargedCall calls.items shown Stopped call
        was = charged.each port call is

        now : IsChargedCall after.items shown Stopped new
        now = record {
          seat = was.seat;
          lines = λ serial has.
              let old = was.lines serial (ap (λ (stored : Option Paid). serial_with stored call.seat.serial) none ∙ has) in
              record {
                lines = same serial ∙ old.lines
                    ∙ ap (λ (l : Option Charge). shown serial ++ option_to_list l) (no_line call none ∙ sym (no_charge new wish free owes));
                count = old.count;
                going = old.going;
              };
        }

  -- what a caller sends is no line
  sent_lines : (caller : Option ℕ) (item : Item) → IsSome caller → caller ≡ sender_of item → (serial : ℕ)
      → lines_with (calls.items ++ item ∷ []) serial ≡ lines_with calls.items serial
  sent_lines caller (items.Charge line) known sent serial = let never = subst IsSome sent known in absurd cc
  sent_lines caller (items.Reply reply) known sent serial =
      lines_with-append calls.items (items.Reply reply ∷ []) serial ∙ append-nil (lines_with calls.items serial)
  sent_lines caller (items.Mail mail) known sent serial =
      lines_with-append calls.items (items.Mail mail ∷ []) serial ∙ append-nil (lines_with calls.items serial)

  -- any wish is stored
  wish_charged : (holdings : Holdings) (call : Call) (wish : Wish) → call_in calls port ≡ Some call → call.stored ≡ None
      → wish_in call.seat.phase ≡ Some wish → AreCharged (with_wish holdings calls port call wish) shown Stopped
  wish_charged holdings call (wishes.LogOn account) is none owes = log_on_charged holdings call account is none owes
  wish_charged holdings call (wishes.Charge line) is none owes = charge_charged holdings call line is none owes
  wish_charged holdings call (wishes.Post item) is none owes =
      let own = subst (λ (wish : Option Wish). IfSome wish (IsOwn call.seat)) owes (charged.each port call is).seat.owed in
      stored_charged call (wishes.Post item) is none owes refl (with_wish holdings calls port call (wishes.Post item)) refl (omega arith)
      (sent_lines call.seat.account item own.1 own.2)
  wish_charged holdings call (wishes.Remove account number) is none owes =
      stored_charged call (wishes.Remove account number) is none owes refl
      (with_wish holdings calls port call (wishes.Remove account number)) refl
      (omega arith) (λ serial. refl)

  pub store_charged : (holdings : Holdings) (call : Option Call) → call_in calls port ≡ call
      → AreCharged (store_at holdings calls port call).0 shown Stopped
  store_charged holdings None is = charged
  store_charged holdings (Some call) is = by (wish_to_store call) refl
    where
      full : (refused : Bool) (wish : Wish) → wish_to_store call ≡ Some wish
          → AreCharged (storing_unless refused holdings calls port call wish).0 shown Stopped
      full true wish owes = call_ends call is (no_line call (to_store call wish owes).0)
      full false wish owes = let owed = to_store call wish owes in wish_charged holdings call wish is owed.0 owed.1

      by : (wish : Option Wish) → wish_to_store call ≡ wish → AreCharged (storing_at holdings calls port call wish).0 shown Stopped
      by None owes = charged
      by (Some wish) owes = full (lacks_room holdings wish) wish owes

  -- ---- show

  -- the lines that the call at the port is shown beside those that it was shown
  abbrev pub shown_with : Option Call → ℕ → List Charge
  shown_with there serial = shown serial ++ filter (is_of_serial serial) (lines_in_hand (there ∷ []))

  -- without a line in hand it is shown no more
  shown_same : (there : Option Call) → (there >>= line_in_hand) ≡ None → (serial : ℕ) → shown_with there serial ≡ shown serial
  shown_same there none serial =
      ap (λ (line : Option Charge). shown serial ++ filter (is_of_serial serial) (cons_option line [])) none ∙ append-nil (shown serial)

  -- calls that are charged without it are with it
  unshown : (after : Calls) (there : Option Call) → (there >>= line_in_hand) ≡ None → AreCharged after shown Stopped
      → AreCharged after (shown_with there) Stopped
  unshown after there none =
      recharged after shown (shown_with there) Stopped Stopped (shown_same there none) (λ s gone. gone) (λ s gone. gone)

  module _ (laws : SeatLaws) (call : Call) (is : call_in calls port ≡ Some call) (reply : Paid) (has : call.stored ≡ Some reply) where
    -- its seat goes on with the reply
    abbrev turn : CallState × Step
    turn = storing_turn call.seat call.seat.phase reply

    was_seat : IsCallState call.seat
    was_seat = (charged.each port call is).seat

    replied : Happens call.seat (CallStored reply) (storing_turn call.seat call.seat.phase reply).0
        (storing_turn call.seat call.seat.phase reply).1
    replied = record { after_is = refl; step_is = refl }

    seat_after : IsCallState (storing_turn call.seat call.seat.phase reply).0
    seat_after = laws.lasts call.seat _ (CallStored reply) _ was_seat replied

    same : IsSameCaller call.seat (CallStored reply) (storing_turn call.seat call.seat.phase reply).0
    same = laws.stays call.seat _ (CallStored reply) _ was_seat replied

    serial_same : (storing_turn call.seat call.seat.phase reply).0.serial ≡ serial_of call
    serial_same =
        storing_serial call.seat call.seat.phase reply (answers_at calls port sound call reply is has)
        ∙ ap (λ (stored : Option Paid). serial_with stored call.seat.serial) (sym has)

    -- the reply to what is no charge shows no priced frame
    free_shown : (wish : Wish) (told : Paid) → wish_charge wish ≡ None → call.seat.phase ≡ Owing wish → reply ≡ told
        → lines_after (CallStored told) (Owing wish) call.seat.lines ≡ call.seat.lines
        → AreCharged (turn_at calls port (storing_turn call.seat call.seat.phase reply)).0 (shown_with (Some call)) Stopped
    free_shown wish told free owes is_told count =
        let empty = no_charge call wish free (ap wish_in owes) in
        unshown (turn_at calls port (storing_turn call.seat call.seat.phase reply)).0 (Some call) empty
        (seat_goes_on call is empty (storing_turn call.seat call.seat.phase reply) seat_after serial_same
        (same.lines ∙ ap (λ (r : Paid). lines_after (CallStored r) call.seat.phase call.seat.lines) is_told
        ∙ ap (λ (phase : Phase). lines_after (CallStored told) phase call.seat.lines) owes ∙ count))

    -- the reply to a charge shows the frame of the line in hand
    module _ (line : Charge) (in_hand : line_in_hand call ≡ Some line)
        (count : (storing_turn call.seat call.seat.phase reply).0.lines ≡ call.seat.lines + 1) where
      own : IsOwnCharge call.seat line
      own = hand_own call line was_seat in_hand

      its_serial : serial_of call ≡ Some line.serial
      its_serial = hand_serial call line was_seat in_hand
          (subst (λ (there : Option Call). IfSome there OwesItsReply) is (sound.replies port))

      before : (serial : ℕ) → serial ≡ line.serial → HasLines call (lines_with calls.items serial) (shown serial) (Stopped serial)
      before serial this = (charged.each port call is).lines serial (its_serial ∙ ap Some (sym this))

      added : (serial : ℕ) → shown_with (Some call) serial ≡ shown serial ++ filter (is_of_serial serial) (line ∷ [])
      added serial = ap (λ (l : Option Charge). shown serial ++ filter (is_of_serial serial) (cons_option l [])) in_hand

      with_line : (serial : ℕ) → serial ≡ line.serial → shown_with (Some call) serial ≡ shown serial ++ line ∷ []
      with_line serial this = added serial ∙ ap (λ (l : List Charge). shown serial ++ l) (its_own line serial this)

      all_shown : (serial : ℕ) → serial ≡ line.serial → lines_with calls.items serial ≡ shown_with (Some call) serial
      all_shown serial this =
          (before serial this).lines ∙ ap (λ (l : Option Charge). shown serial ++ option_to_list l) in_hand ∙ sym (with_line serial this)

      charge_shown : AreCharged (turn_at calls port (storing_turn call.seat call.seat.phase reply)).0 (shown_with (Some call)) Stopped
      charge_shown =
          moved calls (turn_at calls port turn).0 shown (shown_with (Some call)) Stopped Stopped port (call_after turn.0 turn.1) refl
          sound charged moves charged.given charged.stopped
          (λ other is_it. charged_seat other turn.1 is_it)
        where
          moves : (serial : ℕ) → IsMoved calls (turn_at calls port turn).0 shown (shown_with (Some call)) Stopped Stopped port
              (call_after turn.0 turn.1) refl serial
          moves serial = elim (eqb_tells serial line.serial) [
            | inl this ↦ inl (
              ap (λ (c : Option Call). c >>= serial_of) is ∙ its_serial ∙ ap Some (sym this.1),
              inl (all_shown serial this.1),
            )
            | inr other ↦ inr (record {
              stored = refl;
              shown_is = added serial ∙ ap (λ (l : List Charge). shown serial ++ l) (not_its_own line serial other.1)
                  ∙ append-nil (shown serial);
              on = λ gone. gone;
              back = λ gone. gone;
              no_hand = λ c there serial_is.
                  let one : call ≡ c = some_is (sym is ∙ there) in
                  let its : call.seat.serial ≡ Some serial = ap (λ (x : Call). x.seat.serial) one ∙ serial_is in
                  absurd (other.1 (some_is (sym its ∙ own.serial)));
            })
          ]

          now : IsChargedCall calls.items (shown_with (Some call)) Stopped (call_of turn.0)
          now = record {
            seat = seat_after;
            lines = λ serial has_it.
                let this : serial ≡ line.serial = some_is (sym has_it ∙ serial_same ∙ its_serial) in
                let old = before serial this in
                record {
                  lines = all_shown serial this ∙ sym (append-nil (shown_with (Some call) serial));
                  count = count ∙ ap (λ (n : ℕ). n + 1) old.count ∙ sym (ap (λ (l : List Charge). length l) (with_line serial this)
                      ∙ length-append (shown serial) (line ∷ []));
                  going = old.going;
                };
          }

          charged_seat : (other : Call) (step : Step) → call_after turn.0 step ≡ Some other
              → IsChargedCall calls.items (shown_with (Some call)) Stopped other
          charged_seat other steps.Quiet is_it = subst (IsChargedCall calls.items (shown_with (Some call)) Stopped) (some_is is_it) now
          charged_seat other (steps.Show screen) is_it =
              subst (IsChargedCall calls.items (shown_with (Some call)) Stopped) (some_is is_it) now
          charged_seat other (steps.Owe wish) is_it = subst (IsChargedCall calls.items (shown_with (Some call)) Stopped) (some_is is_it) now
          charged_seat other (steps.Ended why screen) is_it = absurd cc

    reply_shown : AreCharged (turn_at calls port (storing_turn call.seat call.seat.phase reply)).0 (shown_with (Some call)) Stopped
    reply_shown = by call.seat.phase reply refl refl (answers_at calls port sound call reply is has)
      where
        by : (phase : Phase) (told : Paid) → call.seat.phase ≡ phase → reply ≡ told → Answers phase told
            → AreCharged (turn_at calls port (storing_turn call.seat call.seat.phase reply)).0 (shown_with (Some call)) Stopped
        by Listening (Serial serial) owes told never = absurd never
        by Listening Stored owes told never = absurd never
        by (Owing (wishes.LogOn account)) (Serial serial) owes told answers =
            free_shown (wishes.LogOn account) (Serial serial) refl owes told refl
        by (Owing (wishes.LogOn account)) Stored owes told never = absurd never
        by (Owing (wishes.Charge line)) (Serial serial) owes told never = absurd never
        by (Owing (wishes.Charge line)) Stored owes told answers =
            charge_shown line (ap (λ (stored : Option Paid). cond (is_some stored) (wish_in call.seat.phase >>= wish_charge) None) has
            ∙ ap (λ (phase : Phase). wish_in phase >>= wish_charge) owes)
            (same.lines ∙ ap (λ (r : Paid). lines_after (CallStored r) call.seat.phase call.seat.lines) told
            ∙ ap (λ (phase : Phase). lines_after (CallStored Stored) phase call.seat.lines) owes)
        by (Owing (wishes.Post item)) (Serial serial) owes told never = absurd never
        by (Owing (wishes.Post item)) Stored owes told answers = free_shown (wishes.Post item) Stored refl owes told refl
        by (Owing (wishes.Remove account number)) (Serial serial) owes told never = absurd never
        by (Owing (wishes.Remove account number)) Stored owes told answers =
            free_shown (wishes.Remove account number) Stored refl owes told refl
        by Over (Serial serial) owes told never = absurd never
        by Over Stored owes told never = absurd never

  pub show_charged : SeatLaws → (call : Option Call) → call_in calls port ≡ call
      → AreCharged (show_at calls port call).0 (shown_with call) Stopped
  show_charged laws None is = unshown calls None refl charged
  show_charged laws (Some call) is = by call.stored refl
    where
      by : (stored : Option Paid) → call.stored ≡ stored
          → AreCharged (showing_at calls port call.seat stored).0 (shown_with (Some call)) Stopped
      by None has = unshown calls (Some call) (no_line call has) charged
      by (Some reply) has = reply_shown laws call is reply has

-- ---- calls that end

-- what is stopped with these lines: the calls that were, and those of the lines
pub record IsStoppedWith (Stopped Gone : ℕ → Type 0) (lines : List Charge) : Type 0 where
  pub before : (serial : ℕ) → Stopped serial → Gone serial
  pub now : (line : Charge) → Contains lines line → Gone line.serial
  pub either : (serial : ℕ) → Gone serial → Stopped serial ⊎ ((line : Charge) × Contains lines line × (line.serial ≡ serial))

module _ (calls : Calls) (shown : ℕ → List Charge) (Stopped Gone : ℕ → Type 0) (sound : IsSoundCalls calls)
    (charged : AreCharged calls shown Stopped) where
  -- no line is in hand, so that no call is stopped
  unstopped : (after : Calls) → IsStoppedWith Stopped Gone [] → AreCharged after shown Stopped → AreCharged after shown Gone
  unstopped after stops =
      recharged after shown shown Stopped Gone (λ serial. refl) stops.before (λ serial gone. elim (stops.either serial gone) [
        | inl before ↦ before
        | inr now ↦ absurd (omega (arith, now.1.1))
      ])

  -- the call of a line in hand has a serial that was given
  hand_below : (port : ℕ) (call : Call) (line : Charge) → call_in calls port ≡ Some call → line_in_hand call ≡ Some line
      → serial_in calls port ≡ Some line.serial
  hand_below port call line is in_hand =
      ap (λ (c : Option Call). c >>= serial_of) is
      ∙ hand_serial call line (charged.each port call is).seat in_hand
      (subst (λ (there : Option Call). IfSome there OwesItsReply) is (sound.replies port))

  -- a call that hangs up
  module _ (port : ℕ) where
    line_stopped : (call : Call) (line : Charge) → call_in calls port ≡ Some call → line_in_hand call ≡ Some line
        → IsStoppedWith Stopped Gone (line ∷ []) → AreCharged (with_call calls port None) shown Gone
    line_stopped call line is in_hand stops =
        moved calls (with_call calls port None) shown shown Stopped Gone port None refl sound charged moves charged.given
        (λ serial gone. elim (stops.either serial gone) [
          | inl before ↦ charged.stopped serial before
          | inr now ↦ subst (λ (s : ℕ). s < calls.log_ons) (now.2) (sound.below port now.0.serial (only now.0 now.1))
        ])
        (λ other same. absurd cc)
      where
        here : serial_in calls port ≡ Some line.serial
        here = hand_below port call line is in_hand

        one : (other : Charge) → Contains (line ∷ []) other → line ≡ other
        one other (zero, within, same) = same
        one other (suc k, within, same) = absurd (omega (arith, within))

        only : (other : Charge) → Contains (line ∷ []) other → serial_in calls port ≡ Some other.serial
        only other there = here ∙ ap (λ (l : Charge). Some l.serial) (one other there)

        own : IsOwnCharge call.seat line
        own = hand_own call line (charged.each port call is).seat in_hand

        moves : (serial : ℕ) → IsMoved calls (with_call calls port None) shown shown Stopped Gone port None refl serial
        moves serial = elim (eqb_tells serial line.serial) [
          | inl this ↦
              let has = (charged.each port call is).lines serial
              (hand_serial call line (charged.each port call is).seat in_hand
              (subst (λ (there : Option Call). IfSome there OwesItsReply) is (sound.replies port)) ∙ ap Some (sym this.1)) in
              inl (
                here ∙ ap Some (sym this.1),
                inr (record {
                  line = line;
                  one_more = has.lines ∙ ap (λ (l : Option Charge). shown serial ++ option_to_list l) in_hand;
                  why = inr (subst Gone (sym this.1) (stops.now line (0, omega arith, refl)));
                }),
              )
          | inr other ↦ inr (record {
            stored = refl;
            shown_is = refl;
            on = stops.before serial;
            back = λ gone. elim (stops.either serial gone) [
              | inl before ↦ before
              | inr now ↦ absurd (other.1 (sym now.2 ∙ ap (λ (l : Charge). l.serial) (sym (one now.0 now.1))))
            ];
            no_hand = λ c there serial_is.
                let same : call ≡ c = some_is (sym is ∙ there) in
                let its : call.seat.serial ≡ Some serial = ap (λ (x : Call). x.seat.serial) same ∙ serial_is in
                absurd (other.1 (some_is (sym its ∙ own.serial)));
          })
        ]

    pub hang_charged : (call : Option Call) → call_in calls port ≡ call → IsStoppedWith Stopped Gone (lines_in_hand (call ∷ []))
        → AreCharged (hang_at calls port call).0 shown Gone
    hang_charged None is stops = unstopped calls stops charged
    hang_charged (Some call) is stops = by (line_in_hand call) refl stops
      where
        by : (line : Option Charge) → line_in_hand call ≡ line → IsStoppedWith Stopped Gone (cons_option line [])
            → AreCharged (with_call calls port None) shown Gone
        by None in_hand stops =
            unstopped (with_call calls port None) stops (call_ends calls shown Stopped port sound charged call is in_hand)
        by (Some line) in_hand stops = line_stopped call line is in_hand stops

  -- all calls are over
  pub crash_charged : IsStoppedWith Stopped Gone (lines_in_hand calls.ports) → AreCharged (without_calls calls) shown Gone
  crash_charged stops = record {
    owed = λ serial. elim (charged.owed serial) [
      | inl is ↦ inl is
      | inr more ↦ inr (record {
        line = more.line;
        one_more = more.one_more;
        why = inr (elim more.why [ inl hand ↦ held serial more.line hand | inr gone ↦ stops.before serial gone ]);
      })
    ];
    given = charged.given;
    stopped = λ serial gone. elim (stops.either serial gone) [
      | inl before ↦ charged.stopped serial before
      | inr now ↦ subst (λ (s : ℕ). s < calls.log_ons) now.2 (below now.0 now.1)
    ];
    each = λ port call is. let none : None ≡ Some call = sym (copy_at {X = Option Call} None PORTS port) ∙ is in absurd cc;
  }
    where
      held : (serial : ℕ) (line : Charge) → IsInHand calls serial line → Gone serial
      held serial line hand =
          let own = hand_own hand.call line (charged.each hand.port hand.call hand.there).seat hand.in_hand in
          let at : line.serial ≡ serial = some_is (sym own.serial ∙ hand.serial_is) in
          subst Gone at (stops.now line (into_filter_map (λ (there : Option Call). there >>= line_in_hand) calls.ports (Some hand.call) line
          (present calls.ports hand.port hand.call hand.there) hand.in_hand))

      below : (line : Charge) → Contains (lines_in_hand calls.ports) line → line.serial < calls.log_ons
      below line there =
          let found = from_filter_map (λ (there : Option Call). there >>= line_in_hand) calls.ports line there in
          by found.0 found.1 found.2
        where
          by : (found : Option Call) → Contains calls.ports found → (found >>= line_in_hand) ≡ Some line → line.serial < calls.log_ons
          by None at is = absurd cc
          by (Some call) (port, within, at) is =
              sound.below port line.serial (hand_below port call line (read_again calls.ports port None (Some call) within ∙ at) is)
