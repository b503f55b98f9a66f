-- What an event makes of sound calls is sound.
use Rattle.std.proofs.Common.{◌≡◌, ℕ, ◌+◌, ◌<◌, Bool, true, false, cond, List, set, Option, Some, None, refl, sym, ap, subst, ◌∙◌, arith}
use Rattle.std.specs.Prelude.{IfSome, ◌||◌, is_some}
use Rattle.std.proofs.lemmas.List.{length-set}
use Rattle.pv_fields.specs.Reading.{◌>>=◌}
use Rattle.pv_edits.specs.Sight.{View}
use Rattle.pv_post.specs.declared.item.Item.{Item}
use Rattle.pv_post.specs.declared.removal.Removal.{Removal}
use Rattle.pv_session.specs.declared.entry.Entry.{Entry}
use Rattle.pv_session.specs.declared.step.Paid.{Paid}
use Rattle.pv_session.specs.declared.step.Paid.TheVariants.{Serial, Stored}
use Rattle.pv_session.specs.declared.step.Phase.{Phase}
use Rattle.pv_session.specs.declared.step.Phase.TheVariants.{Listening, Owing, Over}
use Rattle.pv_session.specs.declared.step.Step.{Step}
use Rattle.pv_session.specs.declared.step.Step.TheVariants as steps
use Rattle.pv_session.specs.declared.step.Wish.{Wish}
use Rattle.pv_session.specs.declared.step.Wish.TheVariants.{LogOn, Charge, Post, Remove}
use Rattle.pv_session.specs.Shown.{ShownFrame}
use Rattle.pv_session.specs.State.{CallState, is_owing, wish_in}
use Rattle.pv_session.specs.Turns.{charged_turn, storing_turn}
use Rattle.pv_network.specs.declared.outcome.Outcome.TheVariants as outcomes
use Rattle.pv_network.specs.Call.{Call, call_of, first_call, serial_with, serial_of, is_waiting, wish_to_store, key_turn}
use Rattle.pv_network.specs.Calls.{Calls, Holdings, lacks_room, call_in, with_call, turn_at, dial_at, hang_at, press_at, items_with, removals_with, reply_for, with_wish, storing_unless, storing_at, store_at, showing_at, show_at}
use Rattle.pv_network.specs.Sound.{serial_in, Answers, OwesItsReply, IsSoundCalls}
use Rattle.pv_network.proofs.KeptSerials.{key_keeps}
use Rattle.pv_network.proofs.Lists.{set_at}

-- the serial of the call at a port; none without a call, or before it has logged on
abbrev serial_of_any : Option Call → Option ℕ
serial_of_any call = call >>= serial_of

-- a call that does not wait has nothing stored
pub none_stored : (owing : Bool) (stored : Option Paid) → (owing || is_some stored) ≡ false → stored ≡ None
none_stored true stored how = absurd cc
none_stored false None how = refl
none_stored false (Some reply) how = absurd cc

-- what is to be stored for a call is what its seat owes, and nothing was stored for it
pub to_store : (call : Call) (wish : Wish) → wish_to_store call ≡ Some wish → (call.stored ≡ None) × (wish_in call.seat.phase ≡ Some wish)
to_store call wish = by call.stored (wish_in call.seat.phase)
  where
    by : (stored : Option Paid) (owed : Option Wish) → cond (is_some stored) None owed ≡ Some wish → (stored ≡ None) × (owed ≡ Some wish)
    by None owed is = (refl, is)
    by (Some reply) owed is = absurd cc

-- the serial of a seat after the reply to what it owes
pub storing_serial : (seat : CallState) (phase : Phase) (reply : Paid) → Answers phase reply
    → (storing_turn seat phase reply).0.serial ≡ serial_with (Some reply) seat.serial
storing_serial seat Listening (Serial serial) never = absurd never
storing_serial seat Listening Stored never = absurd never
storing_serial seat (Owing (LogOn account)) (Serial serial) answers = refl
storing_serial seat (Owing (LogOn account)) Stored never = absurd never
storing_serial seat (Owing (Charge line)) (Serial serial) never = absurd never
storing_serial seat (Owing (Charge line)) Stored answers = by seat.aside
  where
    by : (aside : Option ShownFrame) → (charged_turn seat aside).0.serial ≡ seat.serial
    by None = refl
    by (Some shown) = refl
storing_serial seat (Owing (Post item)) (Serial serial) never = absurd never
storing_serial seat (Owing (Post item)) Stored answers = refl
storing_serial seat (Owing (Remove account number)) (Serial serial) never = absurd never
storing_serial seat (Owing (Remove account number)) Stored answers = refl
storing_serial seat Over (Serial serial) never = absurd never
storing_serial seat Over Stored never = absurd never

-- the reply to a wish is the one to what its seat owes
own_reply : (calls : Calls) (wish : Wish) → Answers (Owing wish) (reply_for calls wish)
own_reply calls (LogOn account) = tt
own_reply calls (Charge line) = tt
own_reply calls (Post item) = tt
own_reply calls (Remove account number) = tt

reply_answers : (calls : Calls) (phase : Phase) (wish : Wish) → wish_in phase ≡ Some wish → Answers phase (reply_for calls wish)
reply_answers calls Listening wish is = absurd cc
reply_answers calls (Owing own) wish is =
    let same : own ≡ wish = cc in subst (λ (w : Wish). Answers (Owing own) (reply_for calls w)) same (own_reply calls own)
reply_answers calls Over wish is = absurd cc

module _ (calls : Calls) (port : ℕ) (sound : IsSoundCalls calls) where
  -- a reply that is to be shown is the one to what the seat owes
  pub answers_at : (call : Call) (reply : Paid) → call_in calls port ≡ Some call → call.stored ≡ Some reply
      → Answers call.seat.phase reply
  answers_at call reply is has = subst (λ (stored : Option Paid). IfSome stored (Answers call.seat.phase)) has
      (subst (λ (there : Option Call). IfSome there OwesItsReply) is (sound.replies port))

  -- calls stay sound with another call at a port that has its serial or none, whatever the items and the removals
  with_call_sound : (items : List Item) (removals : List Removal) (call : Option Call)
      → ((serial : ℕ) → serial_of_any call ≡ Some serial → serial_in calls port ≡ Some serial)
      → IfSome call OwesItsReply → IsSoundCalls (record calls { items = items; removals = removals; ports = set calls.ports port call })
  with_call_sound items removals call kept answers = record {
    ports = length-set calls.ports port call ∙ sound.ports;
    below = set_at (λ k x. (serial : ℕ) → serial_of_any x ≡ Some serial → serial < calls.log_ons) calls.ports port call None sound.below
        (λ serial is. sound.below port serial (kept serial is));
    differ = set_at (λ k x. (other serial : ℕ) → serial_of_any x ≡ Some serial → serial_in
        (with_call calls port call) other ≡ Some serial → k ≡ other)
        calls.ports port call None (λ k other serial is. one k other serial is) (λ other serial is. one port other serial (kept serial is));
    replies = set_at (λ k x. IfSome x OwesItsReply) calls.ports port call None sound.replies answers;
  }
    where
      one : (k other serial : ℕ) → serial_in calls k ≡ Some serial → serial_in (with_call calls port call) other ≡ Some serial → k ≡ other
      one k other serial is =
          set_at (λ o x. serial_of_any x ≡ Some serial → k ≡ o) calls.ports port call None (λ o there. sound.differ k o serial is there)
          (λ here. sound.differ k port serial is (kept serial here)) other

  -- they stay sound without a call there
  without_call_sound : IsSoundCalls (with_call calls port None)
  without_call_sound = with_call_sound calls.items calls.removals None (λ serial is. absurd cc) tt

  -- they stay sound after a turn that keeps the serial
  turn_sound : (turn : CallState × Step) → ((serial : ℕ) → turn.0.serial ≡ Some serial → serial_in calls port ≡ Some serial)
      → IsSoundCalls (turn_at calls port turn).0
  turn_sound (seat, steps.Quiet) kept = with_call_sound calls.items calls.removals (Some (call_of seat)) kept tt
  turn_sound (seat, steps.Show screen) kept = with_call_sound calls.items calls.removals (Some (call_of seat)) kept tt
  turn_sound (seat, steps.Owe wish) kept = with_call_sound calls.items calls.removals (Some (call_of seat)) kept tt
  turn_sound (seat, steps.Ended why screen) kept = without_call_sound

  -- they stay sound as a log-on is stored, since its serial is none of those before it
  log_on_sound : (holdings : Holdings) (call : Call) (account : ℕ) → Answers call.seat.phase (Serial calls.log_ons)
      → IsSoundCalls (with_wish holdings calls port call (LogOn account))
  log_on_sound holdings call account answers = record {
    ports = length-set calls.ports port (Some new) ∙ sound.ports;
    below = set_at (λ k x. (serial : ℕ) → serial_of_any x ≡ Some serial → serial < calls.log_ons + 1) calls.ports port (Some new) None
        (λ k serial is. let less = sound.below k serial is in omega (arith, less)) (λ serial is. omega (arith, this serial is));
    differ = set_at (λ k x. (other serial : ℕ) → serial_of_any x ≡ Some serial → serial_in
        (with_wish holdings calls port call (LogOn account)) other ≡ Some serial → k ≡ other)
        calls.ports port (Some new) None old latest;
    replies = set_at (λ k x. IfSome x OwesItsReply) calls.ports port (Some new) None sound.replies answers;
  }
    where
      new : Call
      new = record call { stored = Some (Serial calls.log_ons) }

      this : (serial : ℕ) → serial_of_any (Some new) ≡ Some serial → serial ≡ calls.log_ons
      this serial is = cc

      old : (k other serial : ℕ) → serial_in calls k ≡ Some serial
          → serial_in (with_wish holdings calls port call (LogOn account)) other ≡ Some serial → k ≡ other
      old k other serial is =
          set_at (λ o x. serial_of_any x ≡ Some serial → k ≡ o) calls.ports port (Some new) None
          (λ o there. sound.differ k o serial is there)
          (λ here. let less = sound.below k serial is in absurd (omega (arith, less, this serial here))) other

      latest : (other serial : ℕ) → serial_of_any (Some new) ≡ Some serial
          → serial_in (with_wish holdings calls port call (LogOn account)) other ≡ Some serial → port ≡ other
      latest other serial is =
          set_at (λ o x. serial_of_any x ≡ Some serial → port ≡ o) calls.ports port (Some new) None
          (λ o there. let less = sound.below o serial there in absurd (omega (arith, less, this serial is))) (λ here. refl) other

  -- they stay sound as any wish is stored
  wish_sound : (holdings : Holdings) (call : Call) (wish : Wish) → call_in calls port ≡ Some call → call.stored ≡ None
      → Answers call.seat.phase (reply_for calls wish) → IsSoundCalls (with_wish holdings calls port call wish)
  wish_sound holdings call wish is none = by wish
    where
      kept : (serial : ℕ) → serial_of (record call { stored = Some Stored }) ≡ Some serial → serial_in calls port ≡ Some serial
      kept serial has = ap serial_of_any is ∙ ap (λ (stored : Option Paid). serial_with stored call.seat.serial) none ∙ has

      stored : (wish : Wish) → Answers call.seat.phase Stored → IsSoundCalls (record calls {
        items = items_with calls wish;
        removals = removals_with holdings calls wish;
        ports = set calls.ports port (Some (record call { stored = Some Stored }));
      })
      stored wish answers =
          with_call_sound (items_with calls wish) (removals_with holdings calls wish)
          (Some (record call { stored = Some Stored })) kept answers

      by : (wish : Wish) → Answers call.seat.phase (reply_for calls wish) → IsSoundCalls (with_wish holdings calls port call wish)
      by (LogOn account) = log_on_sound holdings call account
      by (Charge line) = stored (Charge line)
      by (Post item) = stored (Post item)
      by (Remove account number) = stored (Remove account number)

  -- ---- the events

  pub dial_sound : (call : Option Call) → IsSoundCalls (dial_at calls port call).0
  dial_sound None = with_call_sound calls.items calls.removals (Some first_call) (λ serial is. absurd cc) tt
  dial_sound (Some call) = sound

  pub hang_sound : (call : Option Call) → IsSoundCalls (hang_at calls port call).0
  hang_sound None = sound
  hang_sound (Some call) = without_call_sound

  pub press_sound : (key : ℕ) (view : View) (moment : ℕ) (entry : Option Entry) (call : Option Call) → call_in calls port ≡ call
      → IsSoundCalls (press_at calls port key view moment entry call).0
  press_sound key view moment entry None is = sound
  press_sound key view moment entry (Some call) is = by (is_waiting call) refl
    where
      by : (waiting : Bool) → is_waiting call ≡ waiting
          → IsSoundCalls (cond waiting (calls, outcomes.Owing) (turn_at calls port (key_turn call.seat key view moment entry))).0
      by true how = sound
      by false how = turn_sound _ (λ serial kept. ap serial_of_any is
          ∙ ap (λ (stored : Option Paid). serial_with stored call.seat.serial) (none_stored (is_owing call.seat.phase) call.stored how)
          ∙ sym (key_keeps call.seat key view moment entry) ∙ kept)

  pub store_sound : (holdings : Holdings) (call : Option Call) → call_in calls port ≡ call
      → IsSoundCalls (store_at holdings calls port call).0
  store_sound holdings None is = sound
  store_sound holdings (Some call) is = by (wish_to_store call) refl
    where
      full : (refused : Bool) (wish : Wish) → wish_to_store call ≡ Some wish
          → IsSoundCalls (storing_unless refused holdings calls port call wish).0
      full true wish owes = without_call_sound
      full false wish owes =
          let owed = to_store call wish owes in wish_sound holdings call wish is owed.0 (reply_answers calls call.seat.phase wish owed.1)

      by : (wish : Option Wish) → wish_to_store call ≡ wish → IsSoundCalls (storing_at holdings calls port call wish).0
      by None owes = sound
      by (Some wish) owes = full (lacks_room holdings wish) wish owes

  pub show_sound : (call : Option Call) → call_in calls port ≡ call → IsSoundCalls (show_at calls port call).0
  show_sound None is = sound
  show_sound (Some call) is = by call.stored refl
    where
      by : (stored : Option Paid) → call.stored ≡ stored → IsSoundCalls (showing_at calls port call.seat stored).0
      by None has = sound
      by (Some reply) has =
          let answers = answers_at call reply is has in
          turn_sound (storing_turn call.seat call.seat.phase reply) (λ serial kept. ap serial_of_any is
          ∙ ap (λ (stored : Option Paid). serial_with stored call.seat.serial) has ∙ sym
          (storing_serial call.seat call.seat.phase reply answers) ∙ kept)
