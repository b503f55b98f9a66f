-- A call at a centre's port, and a key at its seat.
use Rattle.std.specs.Prelude.{ℕ, Bool, true, false, ◌||◌, is_some, Option, Some, None, if◌then◌else◌}
use Rattle.pv_words.specs.Parts.{Exactly}
use Rattle.pv_edits.specs.Sight.{View}
use Rattle.pv_session.specs.declared.entry.Entry.{Entry}
use Rattle.pv_session.specs.declared.message.Message.TheVariants.{CallEnded}
use Rattle.pv_session.specs.declared.step.Paid.{Paid}
use Rattle.pv_session.specs.declared.step.Paid.TheVariants.{Serial, Stored}
use Rattle.pv_session.specs.declared.step.Phase.{Phase}
use Rattle.pv_session.specs.declared.step.Phase.TheVariants.{Listening, Owing, Over}
use Rattle.pv_session.specs.declared.step.Step.{Step}
use Rattle.pv_session.specs.declared.step.Step.TheVariants as steps
use Rattle.pv_session.specs.declared.step.Why.TheVariants.{Spent}
use Rattle.pv_session.specs.declared.step.Wish.{Wish}
use Rattle.pv_session.specs.Fetching.{ending_turn}
use Rattle.pv_session.specs.State.{CallState, new_call, is_owing, wish_in}
use Rattle.pv_session.specs.Turns.{is_spent, IsEntryOf, byte_turn}

-- a call: its seat, and the reply to what was stored for it, if the caller is still to be shown it
pub record Call : Type 0 where
  pub seat : CallState
  pub stored : Option Paid

-- a call with nothing stored for it
abbrev pub call_of : CallState → Call
call_of seat = record { seat = seat; stored = None }

-- a call that begins
abbrev pub first_call : Call
first_call = call_of new_call

-- something is to be stored for the call, or was stored and is to be shown
abbrev pub is_waiting : Call → Bool
is_waiting call = is_owing call.seat.phase || is_some call.stored

-- what is to be stored for the call, if something is
abbrev pub wish_to_store : Call → Option Wish
wish_to_store call = if is_some call.stored then None else wish_in call.seat.phase

-- the call's serial: the one that was given to it and is to be shown, or the one that its seat has
abbrev pub serial_with : Option Paid → Option ℕ → Option ℕ
serial_with (Some (Serial serial)) kept = Some serial
serial_with (Some Stored) kept = kept
serial_with None kept = kept

abbrev pub serial_of : Call → Option ℕ
serial_of call = serial_with call.stored call.seat.serial

-- ---- a key

-- a byte at a seat at a moment, with the entry that it makes: a spent call ends, and else the byte is heard
abbrev pub key_turn_in : Phase → CallState → ℕ → View → ℕ → Option Entry → CallState × Step
key_turn_in Listening seat byte view moment entry =
    if is_spent seat then ending_turn seat Spent CallEnded else byte_turn seat byte view moment entry
key_turn_in (Owing wish) seat byte view moment entry = (seat, steps.Quiet)
key_turn_in Over seat byte view moment entry = (seat, steps.Quiet)

abbrev pub key_turn : CallState → ℕ → View → ℕ → Option Entry → CallState × Step
key_turn seat byte view moment entry = key_turn_in seat.phase seat byte view moment entry

-- a spent call reads no byte; else the entry is what the keys say with the byte, and nothing if they say nothing yet
abbrev pub IsEntryUnless : Bool → CallState → ℕ → Option Entry → Type 0
IsEntryUnless true seat byte entry = Unit {0}
IsEntryUnless false seat byte entry = Exactly (IsEntryOf seat byte) entry

abbrev pub IsEntryIn : Phase → CallState → ℕ → Option Entry → Type 0
IsEntryIn Listening seat byte entry = IsEntryUnless (is_spent seat) seat byte entry
IsEntryIn (Owing wish) seat byte entry = Unit {0}
IsEntryIn Over seat byte entry = Unit {0}

-- the entry that a byte makes at a seat, if it makes one
abbrev pub IsEntryAt : CallState → ℕ → Option Entry → Type 0
IsEntryAt seat byte entry = IsEntryIn seat.phase seat byte entry
