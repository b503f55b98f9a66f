-- What holds of each kind of turn holds of whatever an entry does: a message, a frame, the end of the call, or something owed.
use Rattle.std.proofs.Common.{◌≡◌, ℕ, ◌+◌, Bool, true, false, List, [], ◌∷◌, ◌++◌, length, take, Option, Some, None, if◌then◌else◌, nat_lt, refl}
use Rattle.std.specs.Prelude.{◌==◌}
use Rattle.pv_page.specs.Names.{Name}
use Rattle.pv_charge.specs.Line.{Charge}
use Rattle.pv_frame.specs.Content.{Content}
use Rattle.pv_keys.specs.declared.command.Command.{Command}
use Rattle.pv_keys.specs.declared.command.Command.TheVariants as commands
use Rattle.pv_fields.specs.Reading.{◌>>=◌}
use Rattle.pv_post.specs.Boxes.{WaitingLetter}
use Rattle.pv_post.specs.declared.fields.TheConstants.{MAX_FIELDS}
use Rattle.pv_post.specs.declared.item.Item.{Item}
use Rattle.pv_edits.specs.Sight.{View}
use Rattle.pv_session.specs.declared.entry.Entry.{Entry}
use Rattle.pv_session.specs.declared.entry.Entry.TheVariants as entries
use Rattle.pv_session.specs.declared.step.Phase.TheVariants as phases
use Rattle.pv_session.specs.declared.step.Step.{Step}
use Rattle.pv_session.specs.declared.step.Step.TheVariants as steps
use Rattle.pv_session.specs.declared.step.Why.{Why}
use Rattle.pv_session.specs.declared.step.Why.TheVariants as whys
use Rattle.pv_session.specs.declared.step.Wish.{Wish}
use Rattle.pv_session.specs.declared.step.Wish.TheVariants.{LogOn, Post, Remove}
use Rattle.pv_session.specs.declared.message.Message.{Message}
use Rattle.pv_session.specs.declared.message.Message.TheVariants as messages
use Rattle.pv_session.specs.declared.seat.TheConstants.{TRIES}
use Rattle.pv_session.specs.Charging.{charge_of}
use Rattle.pv_session.specs.Entries.{Mode, PasswordMode, AccountMode, BrowseMode, QuestionMode}
use Rattle.pv_session.specs.Shown.{ShownFrame, first_frame, route_of_digit, field_mode}
use Rattle.pv_session.specs.State.{CallState}
use Rattle.pv_session.specs.Fetching.{message_turn, blank_turn, ending_turn, showing_turn, charging_turn, found_turn, fetch_turn, visit_turn, names_with, route_turn, next_turn, back_turn, repeat_turn, fresh_turn, letter_turn, command_turn}
use Rattle.pv_session.specs.Filling.{browsing_call, asking_turn, field_turn, item_to_send, sending_turn, removing_turn}
use Rattle.pv_session.specs.Turns.{log_on_turn, known_caller, entry_turn}

-- a turn by a test
pub by_test : (Holds : CallState × Step → Type 0) (test : Bool) (one other : CallState × Step) → Holds one → Holds other
    → Holds (if test then one else other)
by_test Holds true one other is_one is_other = is_one
by_test Holds false one other is_one is_other = is_other

-- the kinds of turn, at a moment, of calls of which something holds whatever their earlier names
module _ (Fits : CallState → Type 0) (Holds : CallState × Step → Type 0) (moment : ℕ)
    (stays : (call : CallState) (earlier : List Name) → Fits call → Fits (record call { earlier = earlier }))
    (message : (call : CallState) (words : Message) → Fits call → Holds (message_turn call words))
    (alone : (call : CallState) (words : Message) → Fits call → Holds (blank_turn call words))
    (ending : (call : CallState) (why : Why) (words : Message) → Fits call → Holds (ending_turn call why words))
    (showing : (call : CallState) (shown : ShownFrame) → Fits call → Holds (showing_turn call shown))
    (letter : (call : CallState) (waiting : WaitingLetter) → Fits call → Holds (letter_turn call (Some waiting)))
    (charging : (call : CallState) (shown : ShownFrame) (charge : Charge)
    → charge_of call shown.name shown.frame.price moment ≡ Some charge → Fits call
    → Holds (charging_turn call shown (Some charge))) where
  -- a frame that is to be charged
  charging_holds : (call : CallState) (shown : ShownFrame) (charge : Option Charge)
      → charge_of call shown.name shown.frame.price moment ≡ charge → Fits call → Holds (charging_turn call shown charge)
  charging_holds call shown None its fits = message call messages.PageNotAvailable fits
  charging_holds call shown (Some charge) its fits = charging call shown charge its fits

  -- a frame that is found
  found_holds : (call : CallState) (shown : ShownFrame) → Fits call → Holds (found_turn call moment shown)
  found_holds call shown fits =
      let charge = charge_of call shown.name shown.frame.price moment in
      by_test Holds (shown.frame.price == 0) (showing_turn call shown) (charging_turn call shown charge) (showing call shown fits)
      (charging_holds call shown charge refl fits)

  -- a fetch
  fetch_holds : (call : CallState) (name : Name) (frame : Option Content) → Fits call → Holds (fetch_turn call moment name frame)
  fetch_holds call name None fits = message call messages.PageNotAvailable fits
  fetch_holds call name (Some frame) fits = found_holds call (record { name = name; frame = frame }) fits

  -- one from which the caller can go back
  visit_holds : (call : CallState) (name : Name) (frame : Option Content) → Fits call → Holds (visit_turn call moment name frame)
  visit_holds call name None fits = message call messages.PageNotAvailable fits
  visit_holds call name (Some frame) fits =
      let earlier = names_with call.present call.earlier in
      found_holds (record call { earlier = earlier }) (record { name = name; frame = frame }) (stays call earlier fits)

  -- each command that fetches or shows a frame
  route_holds : (call : CallState) (view : View) (page : Option ℕ) → Fits call → Holds (route_turn call view moment page)
  route_holds call view None fits = message call messages.NoSuchRoute fits
  route_holds call view (Some page) fits = visit_holds call (first_frame page) (view.pages (first_frame page)) fits

  next_holds : (call : CallState) (view : View) (present : Option ShownFrame) → Fits call → Holds (next_turn call view moment present)
  next_holds call view None fits = visit_holds call (first_frame 0) (view.pages (first_frame 0)) fits
  next_holds call view (Some present) fits =
      let next : Name = record present.name { letter = present.name.letter + 1 } in
      by_test Holds (present.name.letter == 122) (message_turn call messages.PageNotAvailable)
      (visit_turn call moment next (view.pages next))
      (message call messages.PageNotAvailable fits) (visit_holds call next (view.pages next) fits)

  back_holds : (call : CallState) (view : View) (earlier : List Name) → Fits call → Holds (back_turn call view moment earlier)
  back_holds call view [] fits = message call messages.NoPreviousFrame fits
  back_holds call view (name ∷ earlier) fits =
      fetch_holds (record call { earlier = earlier }) name (view.pages name) (stays call earlier fits)

  repeat_holds : (call : CallState) (present : Option ShownFrame) → Fits call → Holds (repeat_turn call present)
  repeat_holds call None fits = alone call messages.Welcome fits
  repeat_holds call (Some present) fits = showing call present fits

  letter_holds : (call : CallState) (waiting : Option WaitingLetter) → Fits call → Holds (letter_turn call waiting)
  letter_holds call None fits = message call messages.NoMessages fits
  letter_holds call (Some waiting) fits = letter call waiting fits

  fresh_holds : (call : CallState) (view : View) (present : Option ShownFrame) → Fits call → Holds (fresh_turn call view moment present)
  fresh_holds call view None fits = alone call messages.Welcome fits
  fresh_holds call view (Some present) fits = fetch_holds call present.name (view.pages present.name) fits

  -- any command
  pub command_holds : (call : CallState) (view : View) (command : Command) → Fits call → Holds (command_turn call view moment command)
  command_holds call view (commands.Route digit) fits = route_holds call view (route_of_digit call.present digit) fits
  command_holds call view commands.Next fits = next_holds call view call.present fits
  command_holds call view (commands.Go page) fits = visit_holds call (first_frame page) (view.pages (first_frame page)) fits
  command_holds call view commands.Back fits = back_holds call view call.earlier fits
  command_holds call view commands.Repeat fits = repeat_holds call call.present fits
  command_holds call view commands.Fresh fits = fresh_holds call view call.present fits
  command_holds call view commands.Mail fits = letter_holds call view.letter fits
  command_holds call view commands.End fits = ending call whys.Finished messages.CallEnded fits
  command_holds call view commands.Cancel fits = message call messages.Blank fits
  command_holds call view commands.Slip fits = message call messages.KeysNotUnderstood fits

  -- whatever a caller is asked for next, and whatever he owes but a charge
  module _ (quiet : (call : CallState) → Fits call → Holds (call, steps.Quiet))
      (asked : (call : CallState) (mode : Mode) (account : Option ℕ) (failed : ℕ) (filled : List (List ℕ)) → Fits call
      → Fits (record call { mode = mode; keyed = []; account = account; failed = failed; filled = filled }))
      (owing : (call : CallState) (wish : Wish) → Fits call → Holds (record call { phase = phases.Owing wish }, steps.Owe wish)) where
    -- a password
    log_on_holds : (call : CallState) (caller : Option ℕ) → Fits call → Holds (log_on_turn call caller)
    log_on_holds call (Some account) fits = owing call (LogOn account) fits
    log_on_holds call None fits =
        let again : CallState = record call { mode = AccountMode; keyed = []; account = None; failed = call.failed + 1 } in
        by_test Holds (nat_lt (call.failed + 1) TRIES) (message_turn again messages.NotKnown)
        (ending_turn call whys.Refused messages.CallRefused)
        (message again messages.NotKnown (asked call AccountMode None (call.failed + 1) call.filled fits))
        (ending call whys.Refused messages.CallRefused fits)

    -- a message after which the caller is asked for a command
    browsing_holds : (call : CallState) (words : Message) → Fits call → Holds (message_turn (browsing_call call) words)
    browsing_holds call words fits = message (browsing_call call) words (asked call BrowseMode call.account call.failed [] fits)

    -- the next field, or the question after the last
    asking_holds : (call : CallState) (filled : List (List ℕ)) (mode : Option Mode) → Fits call
        → Holds (asking_turn (record call { filled = filled }) mode)
    asking_holds call filled (Some mode) fits =
        quiet (record call { mode = mode; keyed = []; filled = filled }) (asked call mode call.account call.failed filled fits)
    asking_holds call filled None fits =
        message (record call { mode = QuestionMode; keyed = []; filled = filled }) messages.KeyToSend
        (asked call QuestionMode call.account call.failed filled fits)

    field_holds : (call : CallState) (text : List ℕ) → Fits call → Holds (field_turn call text)
    field_holds call text fits =
        let filled = take MAX_FIELDS (call.filled ++ text ∷ []) in
        asking_holds call filled (call.present >>= λ shown. field_mode shown.frame (length filled)) fits

    -- what is sent or removed
    sending_holds : (call : CallState) (item : Option Item) → Fits call → Holds (sending_turn call item)
    sending_holds call None fits = browsing_holds call messages.MessageNotSent fits
    sending_holds call (Some item) fits = owing call (Post item) fits

    removing_holds : (call : CallState) (number : ℕ) (account : Option ℕ) → Fits call → Holds (removing_turn call number account)
    removing_holds call number None fits = browsing_holds call messages.NoMessages fits
    removing_holds call number (Some account) fits = owing call (Remove account number) fits

    -- any entry
    pub entry_holds : (call : CallState) (view : View) (entry : Entry) → Fits call → Holds (entry_turn call view moment entry)
    entry_holds call view (entries.Account account) fits =
        message (record call { mode = PasswordMode; keyed = []; account = Some account }) messages.KeyPassword
        (asked call PasswordMode (Some account) call.failed call.filled fits)
    entry_holds call view (entries.Password password) fits = log_on_holds call (known_caller call.account view.account password) fits
    entry_holds call view (entries.Command command) fits = command_holds call view command fits
    entry_holds call view (entries.Field text) fits = field_holds call text fits
    entry_holds call view entries.Send fits = sending_holds call (item_to_send call moment) fits
    entry_holds call view entries.Keep fits = browsing_holds call messages.MessageNotSent fits
    entry_holds call view (entries.Delete number) fits = removing_holds call number call.account fits
