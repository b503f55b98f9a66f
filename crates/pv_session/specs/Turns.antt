-- A caller's turn: the entry that his keys make, and what his seat does with it.
use Rattle.std.specs.Prelude.{◌≡◌, ℕ, ◌+◌, Bool, true, false, ◌||◌, nat_eq, nat_lt, nat_le, List, [], ◌++◌, Option, Some, None, if◌then◌else◌}
use Rattle.std.specs.Cmp.Lexicographic.{pointwise}
use Rattle.pv_words.specs.Parts.{Exactly}
use Rattle.pv_account.specs.Profile.{Profile, digest_of}
use Rattle.pv_edits.specs.Sight.{View}
use Rattle.pv_screen.specs.Showing.{HasCells}
use Rattle.pv_session.specs.declared.entry.Entry.{Entry}
use Rattle.pv_session.specs.declared.entry.Entry.TheVariants as entries
use Rattle.pv_session.specs.declared.message.Message.TheVariants.{KeyPassword, NotKnown, CallRefused, Welcome, CallEnded, PleaseTryLater, MessageStored, MessageRemoved}
use Rattle.pv_session.specs.declared.seat.TheConstants.{MAX_BYTES, MAX_ENTRIES, TRIES}
use Rattle.pv_session.specs.declared.step.Phase.{Phase}
use Rattle.pv_session.specs.declared.step.Phase.TheVariants as phases
use Rattle.pv_session.specs.declared.step.Paid.{Paid}
use Rattle.pv_session.specs.declared.step.Paid.TheVariants as replies
use Rattle.pv_session.specs.declared.step.Why.TheVariants.{Refused, Spent, Full}
use Rattle.pv_session.specs.declared.step.Wish.TheVariants as wishes
use Rattle.pv_session.specs.declared.step.Step.{Step}
use Rattle.pv_session.specs.declared.step.Step.TheVariants as steps
use Rattle.pv_session.specs.Entries.{AccountMode, PasswordMode, BrowseMode, IsEntry, mode_keys, leaves_mode, kept_keys}
use Rattle.pv_session.specs.Fetching.{message_turn, blank_turn, ending_turn, showing_turn, command_turn}
use Rattle.pv_session.specs.Filling.{browsing_call, field_turn, item_to_send, sending_turn, keeping_turn, removing_turn}
use Rattle.pv_session.specs.Shown.{ShownFrame}
use Rattle.pv_session.specs.State.{CallState}

-- ---- logging on

-- the account was keyed, and the password is next
abbrev pub account_turn : CallState → ℕ → CallState × Step
account_turn call account = message_turn (record call { mode = PasswordMode; keyed = []; account = Some account }) KeyPassword

-- it is the password of an account, by its digest
abbrev pub is_password_of : Profile → List ℕ → Bool
is_password_of account password = pointwise nat_eq (digest_of account.number password) account.digest

-- the caller's account, if he is shown to have one and this is its password
abbrev pub known_caller : Option ℕ → Option Profile → List ℕ → Option ℕ
known_caller (Some number) (Some account) password = if is_password_of account password then Some number else None
known_caller _ _ password = None

-- a log-on that failed: the caller begins again, and the last time his call ends
abbrev pub failure_turn : CallState → CallState × Step
failure_turn call =
    if nat_lt (call.failed + 1) TRIES
    then message_turn (record call { mode = AccountMode; keyed = []; account = None; failed = call.failed + 1 }) NotKnown
    else ending_turn call Refused CallRefused

-- a caller who is known owes the record of his log-on
abbrev pub log_on_turn : CallState → Option ℕ → CallState × Step
log_on_turn call None = failure_turn call
log_on_turn call (Some account) = (record call { phase = phases.Owing (wishes.LogOn account) }, steps.Owe (wishes.LogOn account))

-- ---- a turn

-- what an entry does at a moment
abbrev pub entry_turn : CallState → View → ℕ → Entry → CallState × Step
entry_turn call view moment (entries.Account account) = account_turn call account
entry_turn call view moment (entries.Password password) = log_on_turn call (known_caller call.account view.account password)
entry_turn call view moment (entries.Command command) = command_turn call view moment command
entry_turn call view moment (entries.Field text) = field_turn call text
entry_turn call view moment entries.Send = sending_turn call (item_to_send call moment)
entry_turn call view moment entries.Keep = keeping_turn call
entry_turn call view moment (entries.Delete number) = removing_turn call number call.account

-- the call has had as many bytes or entries as it may have
abbrev pub is_spent : CallState → Bool
is_spent call = nat_le MAX_BYTES call.bytes || nat_le MAX_ENTRIES call.entries

-- a byte, with the keys up to it
abbrev pub keys_with : CallState → ℕ → List ℕ
keys_with call byte = call.keyed ++ mode_keys call.mode byte

-- the call at which a byte is read: one that leaves its mode is the first of a command
abbrev pub reading_call : CallState → ℕ → CallState
reading_call call byte = if leaves_mode call.mode byte then browsing_call call else call

-- what the keys say with a byte
abbrev pub IsEntryOf : CallState → ℕ → Entry → Type 0
IsEntryOf call byte entry = IsEntry (reading_call call byte).mode (keys_with (reading_call call byte) byte) entry

-- the call after a byte that makes an entry
abbrev pub call_at_entry : CallState → CallState
call_at_entry call = record call { keyed = []; bytes = call.bytes + 1; entries = call.entries + 1 }

-- a byte that is read makes no entry, and is kept if it counts; or it makes one, which takes all keys with it
abbrev pub read_turn : CallState → ℕ → View → ℕ → Option Entry → CallState × Step
read_turn call byte view moment None =
    (record call { keyed = kept_keys call.mode (keys_with call byte); bytes = call.bytes + 1 }, steps.Quiet)
read_turn call byte view moment (Some entry) = entry_turn (call_at_entry call) view moment entry

-- a byte, with the entry that it makes
abbrev pub byte_turn : CallState → ℕ → View → ℕ → Option Entry → CallState × Step
byte_turn call byte view moment entry = read_turn (reading_call call byte) byte view moment entry

-- what comes of something: the seat after, and the step
pub record Goes (turn : CallState × Step) (after : CallState) (step : Step) : Type 0 where
  pub after_is : after ≡ turn.0
  pub step_is : step ≡ turn.1

-- a byte is heard
pub record Hears (call : CallState) (byte : ℕ) (view : View) (moment : ℕ) (after : CallState) (step : Step) : Type 0 where
  -- what all the keys since the last entry say; it is `None` if they are not whole
  pub entry : Option Entry
  pub says : Exactly (IsEntryOf call byte) entry
  pub goes : Goes (byte_turn call byte view moment entry) after step

-- a byte is heard unless the call is spent, which ends it
abbrev pub Listens : Bool → CallState → ℕ → View → ℕ → CallState → Step → Type 0
Listens true call byte view moment after step = Goes (ending_turn call Spent CallEnded) after step
Listens false call byte view moment after step = Hears call byte view moment after step

-- a seat that owes something takes no byte, and neither does one whose call is over
abbrev pub IsTurnIn : Phase → CallState → ℕ → View → ℕ → CallState → Step → Type 0
IsTurnIn phases.Listening call byte view moment after step = Listens (is_spent call) call byte view moment after step
IsTurnIn (phases.Owing wish) call byte view moment after step = Goes (call, steps.Quiet) after step
IsTurnIn phases.Over call byte view moment after step = Goes (call, steps.Quiet) after step

-- a byte is keyed at a seat, with what the caller may see at that moment
abbrev pub IsTurn : CallState → ℕ → View → ℕ → CallState → Step → Type 0
IsTurn call byte view moment after step = IsTurnIn call.phase call byte view moment after step

-- the cells of what is sent are 0 to 127
abbrev pub CanBeShown : Step → Type 0
CanBeShown steps.Quiet = Unit {0}
CanBeShown (steps.Show screen) = HasCells screen
CanBeShown (steps.Owe wish) = Unit {0}
CanBeShown (steps.Ended why screen) = HasCells screen

-- ---- what the centre stored

-- a charge that is stored: the frame that was kept aside becomes the present one and is shown
abbrev pub charged_turn : CallState → Option ShownFrame → CallState × Step
charged_turn call None = (call, steps.Quiet)
charged_turn call (Some shown) = showing_turn (record call { phase = phases.Listening; lines = call.lines + 1; aside = None }) shown

-- what is stored: after a log-on the caller is welcome and the call has its serial; another reply than the one to what is owed
-- changes nothing
abbrev pub storing_turn : CallState → Phase → Paid → CallState × Step
storing_turn call (phases.Owing (wishes.LogOn account)) (replies.Serial serial) =
    blank_turn (record call { phase = phases.Listening; mode = BrowseMode; keyed = []; serial = Some serial }) Welcome
storing_turn call (phases.Owing (wishes.LogOn account)) replies.Stored = (call, steps.Quiet)
storing_turn call (phases.Owing (wishes.Charge charge)) (replies.Serial serial) = (call, steps.Quiet)
storing_turn call (phases.Owing (wishes.Charge charge)) replies.Stored = charged_turn call call.aside
storing_turn call (phases.Owing (wishes.Post item)) (replies.Serial serial) = (call, steps.Quiet)
storing_turn call (phases.Owing (wishes.Post item)) replies.Stored =
    message_turn (record (browsing_call call) { phase = phases.Listening }) MessageStored
storing_turn call (phases.Owing (wishes.Remove account number)) (replies.Serial serial) = (call, steps.Quiet)
storing_turn call (phases.Owing (wishes.Remove account number)) replies.Stored =
    message_turn (record (browsing_call call) { phase = phases.Listening }) MessageRemoved
storing_turn call phases.Listening reply = (call, steps.Quiet)
storing_turn call phases.Over reply = (call, steps.Quiet)

-- a seat that owes something to a centre that is full
abbrev pub full_turn : CallState → Phase → CallState × Step
full_turn call (phases.Owing wish) = ending_turn call Full PleaseTryLater
full_turn call phases.Listening = (call, steps.Quiet)
full_turn call phases.Over = (call, steps.Quiet)
