-- What the commands of a caller show: messages, and frames that are fetched. A priced frame is shown once its charge is stored.
use Rattle.std.specs.Prelude.{ℕ, ◌+◌, ◌==◌, List, [], ◌∷◌, take, Option, Some, None, if◌then◌else◌}
use Rattle.pv_page.specs.Names.{Name}
use Rattle.pv_page.specs.declared.frame_name.TheConstants.{LAST_LETTER}
use Rattle.pv_charge.specs.Line.{Charge}
use Rattle.pv_frame.specs.Content.{Content}
use Rattle.pv_post.specs.Boxes.{WaitingLetter}
use Rattle.pv_edits.specs.Sight.{View}
use Rattle.pv_keys.specs.declared.command.Command.{Command}
use Rattle.pv_keys.specs.declared.command.Command.TheVariants as commands
use Rattle.pv_session.specs.declared.earlier.TheConstants.{EARLIER}
use Rattle.pv_session.specs.declared.message.Message.{Message}
use Rattle.pv_session.specs.declared.message.Message.TheVariants.{Welcome, PageNotAvailable, NoSuchRoute, NoPreviousFrame, KeysNotUnderstood, Blank, CallEnded, NoMessages}
use Rattle.pv_session.specs.declared.step.Phase.TheVariants.{Owing, Over}
use Rattle.pv_session.specs.declared.step.Why.{Why}
use Rattle.pv_session.specs.declared.step.Why.TheVariants.{Finished}
use Rattle.pv_session.specs.declared.step.Wish.TheVariants as wishes
use Rattle.pv_session.specs.declared.step.Step.{Step}
use Rattle.pv_session.specs.declared.step.Step.TheVariants as steps
use Rattle.pv_session.specs.Charging.{charge_of}
use Rattle.pv_session.specs.Entries.{LetterMode}
use Rattle.pv_session.specs.Letters.{screen_of_letter}
use Rattle.pv_session.specs.Messages.{screen_of_row, screen_of_blank}
use Rattle.pv_session.specs.Shown.{ShownFrame, screen_of_frame, route_of_digit, first_frame, mode_at}
use Rattle.pv_session.specs.State.{CallState}

-- a message in row 24
abbrev pub message_turn : CallState → Message → CallState × Step
message_turn call message = (call, steps.Show (screen_of_row message))

-- a message on a blank screen
abbrev pub blank_turn : CallState → Message → CallState × Step
blank_turn call message = (call, steps.Show (screen_of_blank message))

-- the call is over, and a message says so
abbrev pub ending_turn : CallState → Why → Message → CallState × Step
ending_turn call why message = (record call { phase = Over }, steps.Ended why (screen_of_row message))

-- ---- frames

-- a frame becomes the present one and is shown, and the caller is asked for its first field if it has one
abbrev pub showing_turn : CallState → ShownFrame → CallState × Step
showing_turn call shown = (
  record call { present = Some shown; mode = mode_at shown.frame; keyed = []; filled = [] },
  steps.Show (screen_of_frame shown),
)

-- a frame is kept aside, and its charge is owed; a caller who cannot be charged has no page
abbrev pub charging_turn : CallState → ShownFrame → Option Charge → CallState × Step
charging_turn call shown None = message_turn call PageNotAvailable
charging_turn call shown (Some charge) =
    (record call { phase = Owing (wishes.Charge charge); aside = Some shown }, steps.Owe (wishes.Charge charge))

-- a frame that is found at a moment: a free one is shown, and a priced one is charged first
abbrev pub found_turn : CallState → ℕ → ShownFrame → CallState × Step
found_turn call moment shown =
    if shown.frame.price == 0 then showing_turn call shown
    else charging_turn call shown (charge_of call shown.name shown.frame.price moment)

-- a fetch: without a frame that the caller may see nothing changes but row 24
abbrev pub fetch_turn : CallState → ℕ → Name → Option Content → CallState × Step
fetch_turn call moment name None = message_turn call PageNotAvailable
fetch_turn call moment name (Some frame) = found_turn call moment (record { name = name; frame = frame })

-- the earlier names, with the present one before them; the oldest of four is dropped
abbrev pub names_with : Option ShownFrame → List Name → List Name
names_with None earlier = earlier
names_with (Some present) earlier = take EARLIER (present.name ∷ earlier)

-- a fetch from which the caller can go back
abbrev pub visit_turn : CallState → ℕ → Name → Option Content → CallState × Step
visit_turn call moment name None = message_turn call PageNotAvailable
visit_turn call moment name (Some frame) =
    found_turn (record call { earlier = names_with call.present call.earlier }) moment (record { name = name; frame = frame })

-- ---- commands

-- a digit: frame a of the page to which the present frame's route leads
abbrev pub route_turn : CallState → View → ℕ → Option ℕ → CallState × Step
route_turn call view moment None = message_turn call NoSuchRoute
route_turn call view moment (Some page) = visit_turn call moment (first_frame page) (view.pages (first_frame page))

-- the next frame of the page, or frame 0a if none is shown
abbrev pub next_turn : CallState → View → ℕ → Option ShownFrame → CallState × Step
next_turn call view moment None = visit_turn call moment (first_frame 0) (view.pages (first_frame 0))
next_turn call view moment (Some present) =
    if present.name.letter == LAST_LETTER then message_turn call PageNotAvailable else
    let next : Name = record present.name { letter = present.name.letter + 1 } in
    visit_turn call moment next (view.pages next)

-- the last earlier frame; its name is used up, whether it can be seen or not
abbrev pub back_turn : CallState → View → ℕ → List Name → CallState × Step
back_turn call view moment [] = message_turn call NoPreviousFrame
back_turn call view moment (name ∷ earlier) = fetch_turn (record call { earlier = earlier }) moment name (view.pages name)

-- the present frame as it was shown, which costs nothing
abbrev pub repeat_turn : CallState → Option ShownFrame → CallState × Step
repeat_turn call None = blank_turn call Welcome
repeat_turn call (Some present) = showing_turn call present

-- the present frame as it is now
abbrev pub fresh_turn : CallState → View → ℕ → Option ShownFrame → CallState × Step
fresh_turn call view moment None = blank_turn call Welcome
fresh_turn call view moment (Some present) = fetch_turn call moment present.name (view.pages present.name)

-- the letter that has waited longest, and whether it is to be deleted
abbrev pub letter_turn : CallState → Option WaitingLetter → CallState × Step
letter_turn call None = message_turn call NoMessages
letter_turn call (Some letter) =
    (record call { mode = LetterMode letter.number; keyed = [] }, steps.Show (screen_of_letter letter))

-- what each command does
abbrev pub command_turn : CallState → View → ℕ → Command → CallState × Step
command_turn call view moment (commands.Route digit) = route_turn call view moment (route_of_digit call.present digit)
command_turn call view moment commands.Next = next_turn call view moment call.present
command_turn call view moment (commands.Go page) = visit_turn call moment (first_frame page) (view.pages (first_frame page))
command_turn call view moment commands.Back = back_turn call view moment call.earlier
command_turn call view moment commands.Repeat = repeat_turn call call.present
command_turn call view moment commands.Fresh = fresh_turn call view moment call.present
command_turn call view moment commands.Mail = letter_turn call view.letter
command_turn call view moment commands.End = ending_turn call Finished CallEnded
command_turn call view moment commands.Cancel = message_turn call Blank
command_turn call view moment commands.Slip = message_turn call KeysNotUnderstood
