-- An editor's turn: the line that is read, the first refusal that applies, and otherwise the seat after and the step.
use Rattle.std.specs.Prelude.{◌≡◌, ℕ, Bool, true, false, not, ◌&&◌, ◌==◌, nat_eq, List, [], ◌∷◌, Option, Some, None, is_none, option_map}
use Rattle.std.specs.Cmp.Lexicographic.{pointwise}
use Rattle.pv_fields.specs.Refusals.{first_of, some_if}
use Rattle.pv_page.specs.Names.{Name}
use Rattle.pv_frame.specs.Content.{Content, blank_frame}
use Rattle.pv_frame.specs.Errors.{error_number}
use Rattle.pv_frame.specs.declared.frame_error.FrameError.TheVariants.{Shape}
use Rattle.pv_account.specs.Profile.{Profile, digest_of}
use Rattle.pv_words.specs.Parts.{Exactly}
use Rattle.pv_edits.specs.declared.record.Record.{Record}
use Rattle.pv_edits.specs.declared.wish.EditWish.TheVariants.{Put}
use Rattle.pv_edits.specs.Edits.{account_at, frame_at, last_of}
use Rattle.pv_edits.specs.Owner.{owner_of}
use Rattle.pv_editor.specs.declared.change.FrameChange.{FrameChange}
use Rattle.pv_editor.specs.declared.change.FrameChange.TheVariants as changes
use Rattle.pv_editor.specs.declared.line.EditLine.{EditLine}
use Rattle.pv_editor.specs.declared.line.EditLine.TheVariants as lines
use Rattle.pv_editor.specs.declared.replies.UdcReplyView.{UdcReplyView}
use Rattle.pv_editor.specs.declared.replies.UdcReplyView.TheVariants.{Refused}
use Rattle.pv_editor.specs.declared.replies.TheConstants.{LOG_ON_FIRST, NOT_OWNER, NO_FRAME, BAD_FRAME, BAD_LINE, NOTHING_OPEN, NOT_KNOWN}
use Rattle.pv_editor.specs.declared.seat.EditorSeat.{EditorSeat}
use Rattle.pv_editor.specs.declared.seat.Working.{Working}
use Rattle.pv_editor.specs.declared.step.EditStep.{EditStep}
use Rattle.pv_editor.specs.declared.step.EditStep.TheVariants as steps
use Rattle.pv_editor.specs.Changes.{changed_frame, has_all_fields}
use Rattle.pv_editor.specs.Lines.{IsLine}
use Rattle.pv_editor.specs.Replies.{ok_reply, number_reply, reply_of}

-- nobody is logged on, and there is no working frame
abbrev pub new_seat : EditorSeat
new_seat = record { account = None; working = None }

-- ---- refusals

-- refused with a code that prints no number
abbrev pub plain : ℕ → UdcReplyView
plain code = Refused code 0

-- only an account may say the line
abbrev pub needs_account : EditLine → Bool
needs_account (lines.LogOn account password) = false
needs_account lines.Quit = false
needs_account _ = true

-- the line is about the working frame
abbrev pub needs_frame : EditLine → Bool
needs_frame (lines.Change change) = true
needs_frame (lines.Store q) = true
needs_frame _ = false

-- there is the account, and this is its password, by its digest
abbrev pub is_password : Option Profile → List ℕ → Bool
is_password None password = false
is_password (Some account) password = pointwise nat_eq (digest_of account.number password) account.digest

-- the account is the one who is logged on
abbrev pub is_logged_on : Option ℕ → ℕ → Bool
is_logged_on None account = false
is_logged_on (Some editor) account = editor == account

-- why an account cannot be logged on
abbrev pub log_on_refusal : List Record → ℕ → List ℕ → Option UdcReplyView
log_on_refusal records account password = some_if (not (is_password (account_at records account) password)) (plain NOT_KNOWN)

-- why a frame cannot be opened: its page is another's, or there is none
abbrev pub open_refusals : Option ℕ → List Record → Name → List (Option UdcReplyView)
open_refusals editor records name =
    some_if (not (is_logged_on editor (owner_of records name.page))) (plain NOT_OWNER)
    ∷ some_if (is_none (frame_at records name)) (plain NO_FRAME)
    ∷ []

-- why a change cannot be made: it adds a field, and the working frame has all
abbrev pub change_refusal : Option Working → FrameChange → Option UdcReplyView
change_refusal (Some working) (changes.Field (Some field)) =
    some_if (has_all_fields working.frame) (Refused BAD_FRAME (error_number Shape))
change_refusal _ _ = None

-- why a line cannot be done, once it needs nothing that is missing
abbrev pub own_refusals : EditorSeat → List Record → EditLine → List (Option UdcReplyView)
own_refusals seat records (lines.LogOn account password) = log_on_refusal records account password ∷ []
own_refusals seat records (lines.Open name) = open_refusals seat.account records name
own_refusals seat records (lines.Change change) = change_refusal seat.working change ∷ []
own_refusals seat records _ = []

-- the reasons why a line is refused, in order
abbrev pub refusals : EditorSeat → List Record → EditLine → List (Option UdcReplyView)
refusals seat records line =
    some_if (needs_account line && is_none seat.account) (plain LOG_ON_FIRST)
    ∷ some_if (needs_frame line && is_none seat.working) (plain NOTHING_OPEN)
    ∷ own_refusals seat records line

-- ---- a line that is not refused

-- a frame under a name
abbrev pub frame_for : Name → Content → Working
frame_for name frame = record { name = name; frame = frame }

-- with a change of its frame
abbrev pub changed_working : FrameChange → Working → Working
changed_working change working = record working { frame = changed_frame change working.frame }

-- the seat after a line
abbrev pub seat_after : EditorSeat → List Record → EditLine → EditorSeat
seat_after seat records (lines.LogOn account password) = record { account = Some account; working = None }
seat_after seat records (lines.New name) = record seat { working = Some (frame_for name blank_frame) }
seat_after seat records (lines.Open name) = record seat { working = option_map (frame_for name) (frame_at records name) }
seat_after seat records (lines.Change change) = record seat { working = option_map (changed_working change) seat.working }
seat_after seat records _ = seat

-- the text of a refusal as a step
abbrev pub refusal_step : UdcReplyView → EditStep
refusal_step refusal = steps.Say (reply_of refusal)

-- a step of the editor's own: there is none if nobody is logged on
abbrev pub by_editor : Option ℕ → (ℕ → EditStep) → EditStep
by_editor None step = refusal_step (plain LOG_ON_FIRST)
by_editor (Some editor) step = step editor

-- a step with the working frame: there is none if nothing is open
abbrev pub with_working : Option Working → (Working → EditStep) → EditStep
with_working None step = refusal_step (plain NOTHING_OPEN)
with_working (Some working) step = step working

-- an editor's last number, 0 at first
abbrev pub number_of_last : Option (ℕ × ℕ) → ℕ
number_of_last None = 0
number_of_last (Some last) = last.0

-- the request that the working frame is stored
abbrev pub store_step : EditorSeat → ℕ → EditStep
store_step seat q =
    with_working seat.working (λ working. by_editor seat.account (λ editor. steps.Ask editor q (Put working.name working.frame)))

-- the editor's last number
abbrev pub last_step : EditorSeat → List Record → List ℕ → EditStep
last_step seat records places =
    by_editor seat.account (λ editor. steps.Say (number_reply (number_of_last (last_of records places editor))))

-- the step of a line
abbrev pub step_of : EditorSeat → List Record → List ℕ → EditLine → EditStep
step_of seat records places (lines.Store q) = store_step seat q
step_of seat records places (lines.Ask q wish) = by_editor seat.account (λ editor. steps.Ask editor q wish)
step_of seat records places lines.Last = last_step seat records places
step_of seat records places (lines.Responses place) = by_editor seat.account (λ editor. steps.Responses editor place)
step_of seat records places lines.Quit = steps.Close
step_of seat records places _ = steps.Say ok_reply

-- ---- a turn

-- a refused line leaves the seat as it was
abbrev pub turn_by : Option UdcReplyView → EditorSeat → EditorSeat × EditStep → EditorSeat × EditStep
turn_by (Some refusal) seat turn = (seat, refusal_step refusal)
turn_by None seat turn = turn

-- the turn of a line that was read, or of one that was not
abbrev pub turn_of : EditorSeat → List Record → List ℕ → Option EditLine → EditorSeat × EditStep
turn_of seat records places None = (seat, refusal_step (plain BAD_LINE))
turn_of seat records places (Some line) =
    turn_by (first_of (refusals seat records line)) seat (seat_after seat records line, step_of seat records places line)

-- the seat after a text, and its step
pub record Says (seat : EditorSeat) (text : List ℕ) (records : List Record) (places : List ℕ)
    (after : EditorSeat) (step : EditStep) : Type 0 where
  -- what the text says; it is `None` if the text is none of an editor's lines
  pub line : Option EditLine
  pub reads : Exactly (IsLine text) line
  -- the turn
  pub seat_is : after ≡ (turn_of seat records places line).0
  pub step_is : step ≡ (turn_of seat records places line).1
