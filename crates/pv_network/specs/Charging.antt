-- The law of charging: what a centre has stored of each call, and what the caller was shown for it.
use Rattle.std.specs.Prelude.{◌≡◌, ◌⊎◌, ℕ, ◌<◌, ◌≤◌, ◌==◌, ◌&&◌, Bool, List, [], ◌∷◌, ◌++◌, length, map, Contains, Option, Some, None, is_some, option_to_list, if◌then◌else◌}
use Rattle.std.specs.List.{filter, filter_map}
use Rattle.pv_fields.specs.Reading.{◌>>=◌}
use Rattle.pv_charge.specs.Line.{Charge}
use Rattle.pv_post.specs.declared.item.Item.{Item}
use Rattle.pv_post.specs.declared.item.Item.TheVariants as items
use Rattle.pv_session.specs.declared.step.Step.{Step}
use Rattle.pv_session.specs.declared.step.Wish.{Wish}
use Rattle.pv_session.specs.declared.step.Wish.TheVariants as wishes
use Rattle.pv_session.specs.Callers.{IsChargeFor, IsCallState}
use Rattle.pv_session.specs.Calls.{CallEvent, Happens, IsSameCaller}
use Rattle.pv_session.specs.Shown.{ShownFrame, screen_of_frame}
use Rattle.pv_session.specs.State.{CallState, new_call, wish_in}
use Rattle.pv_network.specs.declared.outcome.BillLine.{BillLine}
use Rattle.pv_network.specs.declared.outcome.Outcome.{Outcome}
use Rattle.pv_network.specs.declared.outcome.Outcome.TheVariants as outcomes
use Rattle.pv_network.specs.Call.{Call, serial_of}
use Rattle.pv_network.specs.Calls.{Calls, call_in}
use Rattle.pv_network.specs.World.{World, StoppedCall, centre_at}

-- ---- charge lines

-- the charge line of an item, if it is one
abbrev pub line_in : Item → Option Charge
line_in (items.Charge line) = Some line
line_in (items.Reply reply) = None
line_in (items.Mail mail) = None

-- the line is one of the call of a serial
abbrev pub is_of_serial : ℕ → Charge → Bool
is_of_serial serial line = line.serial == serial

-- the charge lines of the call of a serial, among these items
abbrev pub lines_with : List Item → ℕ → List Charge
lines_with kept serial = filter (is_of_serial serial) (filter_map line_in kept)

-- the line is one of the call of a centre and a serial
abbrev pub is_of_call : ℕ → ℕ → BillLine → Bool
is_of_call c serial line = line.centre == c && is_of_serial serial line.line

-- the lines of the charged frames that a call was shown
abbrev pub shown_lines : List BillLine → ℕ → ℕ → List Charge
shown_lines shown c serial = map (λ line. line.line) (filter (is_of_call c serial) shown)

-- a charge line of a centre's call
abbrev pub line_at : ℕ → Charge → BillLine
line_at c line = record { centre = c; line = line }

-- ---- a charge line in hand

-- the charge line of a wish, if it is a charge
abbrev pub wish_charge : Wish → Option Charge
wish_charge (wishes.LogOn account) = None
wish_charge (wishes.Charge line) = Some line
wish_charge (wishes.Post item) = None
wish_charge (wishes.Remove account number) = None

-- the line that was stored for a call and whose frame the caller is still to be shown
abbrev pub line_in_hand : Call → Option Charge
line_in_hand call = if is_some call.stored then (wish_in call.seat.phase >>= wish_charge) else None

-- the lines in hand at some ports
abbrev pub lines_in_hand : List (Option Call) → List Charge
lines_in_hand ports = filter_map (λ there. there >>= line_in_hand) ports

-- the world in which the call at a port was shown the frame of its line in hand, if it had one
abbrev pub with_shown : World → ℕ → Option Call → World
with_shown w c call = record w { shown = w.shown ++ map (line_at c) (lines_in_hand (call ∷ [])) }

-- the call of a charge line
abbrev pub call_of_line : ℕ → Charge → StoppedCall
call_of_line c line = record { centre = c; serial = line.serial }

-- the world in which the calls at these ports were stopped, each that had a line in hand
abbrev pub with_stops : World → ℕ → List (Option Call) → World
with_stops w c ports = record w { stopped = w.stopped ++ map (call_of_line c) (lines_in_hand ports) }

-- ---- the law

-- a call of this serial has the line in hand
pub record IsInHand (calls : Calls) (serial : ℕ) (line : Charge) : Type 0 where
  pub port : ℕ
  pub call : Call
  pub there : call_in calls port ≡ Some call
  pub serial_is : call.seat.serial ≡ Some serial
  pub in_hand : line_in_hand call ≡ Some line

-- the call of a centre and a serial was stopped with a line in hand
abbrev pub IsStoppedCall : List StoppedCall → ℕ → ℕ → Type 0
IsStoppedCall stopped c serial = Contains stopped (record { centre = c; serial = serial })

-- One line more is stored than was shown. The call has it in hand, or was stopped with it.
pub record HasOneMore (calls : Calls) (serial : ℕ) (stored shown : List Charge) (Stopped : Type 0) : Type 0 where
  pub line : Charge
  pub one_more : stored ≡ shown ++ line ∷ []
  pub why : IsInHand calls serial line ⊎ Stopped

-- what is stored of a call is what the caller was shown, followed by at most one line
abbrev pub AreOwedLines : Calls → (ℕ → List Charge) → (ℕ → Type 0) → ℕ → Type 0
AreOwedLines calls shown Stopped serial =
    (lines_with calls.items serial ≡ shown serial) ⊎ HasOneMore calls serial (lines_with calls.items serial) (shown serial) (Stopped serial)

-- so it is of every call of every centre
abbrev pub OwedLines : World → Type 0
OwedLines w = (c serial : ℕ) → AreOwedLines (centre_at w c).calls (shown_lines w.shown c) (IsStoppedCall w.stopped c) serial

-- ---- what keeps it so

-- The lines of a live call are those that it was shown, and then the one in hand. It counts those that it was shown, and was not
-- stopped.
pub record HasLines (call : Call) (stored shown : List Charge) (Stopped : Type 0) : Type 0 where
  pub lines : stored ≡ shown ++ option_to_list (line_in_hand call)
  pub count : call.seat.lines ≡ length shown
  pub going : Stopped → ⊥

-- a live call owes what is its own, and so are its lines, once it has a serial
pub record IsChargedCall (items : List Item) (shown : ℕ → List Charge) (Stopped : ℕ → Type 0) (call : Call) : Type 0 where
  pub seat : IsCallState call.seat
  pub lines : (serial : ℕ) → serial_of call ≡ Some serial → HasLines call (lines_with items serial) (shown serial) (Stopped serial)

-- The law holds at a centre, with what keeps it so: no line has a serial that was not given yet, no such call was stopped, and each
-- live call is charged rightly.
pub record AreCharged (calls : Calls) (shown : ℕ → List Charge) (Stopped : ℕ → Type 0) : Type 0 where
  pub owed : (serial : ℕ) → AreOwedLines calls shown Stopped serial
  pub given : (serial : ℕ) → calls.log_ons ≤ serial → lines_with calls.items serial ≡ []
  pub stopped : (serial : ℕ) → Stopped serial → serial < calls.log_ons
  pub each : (port : ℕ) (call : Call) → call_in calls port ≡ Some call → IsChargedCall calls.items shown Stopped call

-- so it is at every centre
abbrev pub IsChargedWorld : World → Type 0
IsChargedWorld w = (c : ℕ) → AreCharged (centre_at w c).calls (shown_lines w.shown c) (IsStoppedCall w.stopped c)

-- ---- the frame of a charge line

-- the outcome shows a frame, and the line is the charge for it
pub record ShowsFrameOf (line : Charge) (outcome : Outcome) : Type 0 where
  pub frame : ShownFrame
  pub line_is : IsChargeFor line frame
  pub shows : outcome ≡ outcomes.Shown (record { screen = screen_of_frame frame; ended = None })

-- ---- the seats

-- what every seat keeps to: what its call owes is its own, and its caller stays who he is
pub record SeatLaws : Type 0 where
  pub begins : IsCallState new_call
  pub lasts : (call after : CallState) (event : CallEvent) (step : Step) → IsCallState call → Happens call event after step
      → IsCallState after
  pub stays : (call after : CallState) (event : CallEvent) (step : Step) → IsCallState call → Happens call event after step
      → IsSameCaller call event after
