-- A whole call: what happens at a seat, one after another, and what is done for its caller.
use Rattle.std.specs.Prelude.{◌≡◌, ◌≢◌, ℕ, ◌+◌, false, List, [], ◌∷◌, Option, Some, None, IsSome, option_map}
use Rattle.pv_charge.specs.Line.{Charge}
use Rattle.pv_post.specs.declared.item.Item.{Item}
use Rattle.pv_post.specs.declared.item.Item.TheVariants as items
use Rattle.pv_edits.specs.Sight.{View}
use Rattle.pv_screen.specs.declared.screen.Screen.{Screen}
use Rattle.pv_session.specs.declared.step.Paid.{Paid}
use Rattle.pv_session.specs.declared.step.Paid.TheVariants as replies
use Rattle.pv_session.specs.declared.step.Phase.{Phase}
use Rattle.pv_session.specs.declared.step.Phase.TheVariants.{Listening, Owing, Over}
use Rattle.pv_session.specs.declared.step.Why.{Why}
use Rattle.pv_session.specs.declared.step.Wish.{Wish}
use Rattle.pv_session.specs.declared.step.Wish.TheVariants as wishes
use Rattle.pv_session.specs.declared.step.Step.{Step}
use Rattle.pv_session.specs.declared.step.Step.TheVariants as steps
use Rattle.pv_session.specs.Entries.{leaves_mode}
use Rattle.pv_session.specs.State.{CallState}
use Rattle.pv_session.specs.Turns.{Goes, IsTurn, storing_turn, full_turn}

-- what may happen at a seat: a byte is keyed, with what the caller may see and the moment; or what is owed was stored; or it was not
pub data CallEvent : Type 0 where
  Keyed : ℕ → View → ℕ → CallEvent
  Stored : Paid → CallEvent
  Refused : CallEvent

-- what comes of it
abbrev pub Happens : CallState → CallEvent → CallState → Step → Type 0
Happens call (Keyed byte view moment) after step = IsTurn call byte view moment after step
Happens call (Stored reply) after step = Goes (storing_turn call call.phase reply) after step
Happens call Refused after step = Goes (full_turn call call.phase) after step

-- one thing after another happens, and these are the steps
abbrev pub AreSteps : CallState → List CallEvent → List Step → CallState → Type 0
AreSteps call [] [] after = call ≡ after
AreSteps call (event ∷ events) (step ∷ steps) after =
    (next : CallState) × Happens call event next step × AreSteps next events steps after
AreSteps _ _ _ _ = ⊥

-- a byte is keyed that makes no entry, and neither leaves the mode nor ends the call
pub record IsWaiting (call : CallState) (byte : ℕ) (next : CallState) : Type 0 where
  pub view : View
  pub moment : ℕ
  pub step : Step
  pub turns : IsTurn call byte view moment next step
  pub listening : (call.phase ≡ Listening) × (next.phase ≡ Listening)
  pub stays : leaves_mode call.mode byte ≡ false
  pub no_entry : next.entries ≡ call.entries

-- bytes are keyed one after another, and none of them makes an entry or ends the call
abbrev pub AreWaiting : CallState → List ℕ → CallState → Type 0
AreWaiting call [] after = call ≡ after
AreWaiting call (byte ∷ bytes) after =
    (next : CallState) × IsWaiting call byte next × AreWaiting next bytes after

-- ---- what an event changes of a caller

-- the serial after an event: a log-on that is stored gives one
abbrev pub serial_after : CallEvent → Phase → Option ℕ → Option ℕ
serial_after (Stored (replies.Serial serial)) (Owing (wishes.LogOn account)) before = Some serial
serial_after _ _ before = before

-- the line number after an event: a charge that is stored raises it
abbrev pub lines_after : CallEvent → Phase → ℕ → ℕ
lines_after (Stored replies.Stored) (Owing (wishes.Charge charge)) before = before + 1
lines_after _ _ before = before

-- the caller stays who he is: his serial and his line number change at a reply alone, and once he has a serial his account stays
pub record IsSameCaller (call : CallState) (event : CallEvent) (after : CallState) : Type 0 where
  pub serial : after.serial ≡ serial_after event call.phase call.serial
  pub lines : after.lines ≡ lines_after event call.phase call.lines
  pub account : IsSome after.serial → after.account ≡ call.account

-- ---- calls that are alike

-- two events are the same, but for what may be seen and the moment at a byte that makes no entry
abbrev pub IsLike : CallState → CallState → CallEvent → CallEvent → Type 0
IsLike call next (Keyed byte view moment) (Keyed other seen later) =
    (byte ≡ other) × (next.entries ≢ call.entries → (view ≡ seen) × (moment ≡ later))
IsLike call next event other = event ≡ other

-- of two calls the first has these steps, and the events of the other are like its events
abbrev pub AreStepsOfLike : CallState → List CallEvent → List CallEvent → List Step → CallState → Type 0
AreStepsOfLike call [] [] [] after = call ≡ after
AreStepsOfLike call (event ∷ events) (other ∷ others) (step ∷ steps) after =
    (next : CallState) × Happens call event next step × IsLike call next event other × AreStepsOfLike next events others steps after
AreStepsOfLike _ _ _ _ _ = ⊥

-- ---- calls with other serials, at other moments

-- the number that stands for every serial and every moment
abbrev pub any_number : ℕ
any_number = 0

-- a charge, whatever its serial and its moment
abbrev pub plain_charge : Charge → Charge
plain_charge charge = record charge { serial = any_number; moment = any_number }

-- what a caller sends, whatever its moment
abbrev pub plain_item : Item → Item
plain_item (items.Charge charge) = items.Charge (plain_charge charge)
plain_item (items.Reply reply) = items.Reply (record reply { moment = any_number })
plain_item (items.Mail mail) = items.Mail (record mail { moment = any_number })

abbrev pub plain_wish : Wish → Wish
plain_wish (wishes.LogOn account) = wishes.LogOn account
plain_wish (wishes.Charge charge) = wishes.Charge (plain_charge charge)
plain_wish (wishes.Post item) = wishes.Post (plain_item item)
plain_wish (wishes.Remove account number) = wishes.Remove account number

abbrev pub plain_phase : Phase → Phase
plain_phase Listening = Listening
plain_phase (Owing wish) = Owing (plain_wish wish)
plain_phase Over = Over

-- a call, whatever its serial and the moment of what it owes
abbrev pub plain_call : CallState → CallState
plain_call call = record call { phase = plain_phase call.phase; serial = option_map (λ serial. any_number) call.serial }

abbrev pub plain_reply : Paid → Paid
plain_reply (replies.Serial serial) = replies.Serial any_number
plain_reply replies.Stored = replies.Stored

-- an event, whatever its moment or the serial that it gives
abbrev pub plain_event : CallEvent → CallEvent
plain_event (Keyed byte view moment) = Keyed byte view any_number
plain_event (Stored reply) = Stored (plain_reply reply)
plain_event Refused = Refused

-- what a caller is sent by a step: a screen, and why his call is over if it is
abbrev pub sent_by : Step → Option (Screen × Option Why)
sent_by steps.Quiet = None
sent_by (steps.Show screen) = Some (screen, None)
sent_by (steps.Owe wish) = None
sent_by (steps.Ended why screen) = Some (screen, Some why)
