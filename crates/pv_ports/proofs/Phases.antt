-- What the step of a key says of the call after it: whether it goes on, owes something or is over, and that no key ends it as at a full centre.
use Rattle.std.proofs.Common.{◌≡◌, ℕ, ◌+◌, Bool, true, false, List, [], ◌∷◌, ◌++◌, length, take, Option, Some, None, if◌then◌else◌, nat_lt, refl, sym, subst}
use Rattle.std.specs.Prelude.{◌≢◌, ◌==◌}
use Rattle.pv_fields.specs.Reading.{◌>>=◌}
use Rattle.pv_page.specs.Names.{Name}
use Rattle.pv_charge.specs.Line.{Charge}
use Rattle.pv_frame.specs.Content.{Content}
use Rattle.pv_keys.specs.declared.command.Command.{Command}
use Rattle.pv_keys.specs.declared.command.Command.TheVariants as commands
use Rattle.pv_post.specs.Boxes.{WaitingLetter}
use Rattle.pv_post.specs.declared.fields.TheConstants.{MAX_FIELDS}
use Rattle.pv_post.specs.declared.item.Item.{Item}
use Rattle.pv_edits.specs.Sight.{View}
use Rattle.pv_session.specs.declared.entry.Entry.{Entry}
use Rattle.pv_session.specs.declared.entry.Entry.TheVariants as entries
use Rattle.pv_session.specs.declared.message.Message.TheVariants as messages
use Rattle.pv_session.specs.declared.seat.TheConstants.{TRIES}
use Rattle.pv_session.specs.declared.step.Phase.{Phase}
use Rattle.pv_session.specs.declared.step.Phase.TheVariants.{Listening, Owing, Over}
use Rattle.pv_session.specs.declared.step.Step.{Step}
use Rattle.pv_session.specs.declared.step.Step.TheVariants as steps
use Rattle.pv_session.specs.declared.step.Why.TheVariants as whys
use Rattle.pv_session.specs.Charging.{charge_of}
use Rattle.pv_session.specs.Entries.{Mode, AccountMode, leaves_mode}
use Rattle.pv_session.specs.Shown.{ShownFrame, first_frame, route_of_digit, field_mode}
use Rattle.pv_session.specs.State.{CallState}
use Rattle.pv_session.specs.Fetching.{message_turn, ending_turn, showing_turn, charging_turn, found_turn, fetch_turn, visit_turn, names_with, route_turn, next_turn, back_turn, repeat_turn, fresh_turn, letter_turn, command_turn}
use Rattle.pv_session.specs.Filling.{browsing_call, asking_turn, item_to_send, sending_turn, removing_turn}
use Rattle.pv_session.specs.Turns.{Goes, Listens, IsTurn, IsTurnIn, is_spent, known_caller, log_on_turn, entry_turn, reading_call, byte_turn, call_at_entry}
use Rattle.pv_ports.specs.Ends.{StepGoesOn, EndedFor}

-- what a step says of the phase after it
abbrev pub Tells : Step → Phase → Type 0
Tells steps.Quiet phase = phase ≡ Listening
Tells (steps.Show screen) phase = phase ≡ Listening
Tells (steps.Owe wish) phase = phase ≡ Owing wish
Tells (steps.Ended why screen) phase = why ≢ whys.Full

-- a step that does not end the call leaves it open
pub lasts_on : (step : Step) (phase : Phase) → Tells step phase → StepGoesOn step → phase ≢ Over
lasts_on steps.Quiet phase tells goes = λ over. absurd cc
lasts_on (steps.Show screen) phase tells goes = λ over. absurd cc
lasts_on (steps.Owe wish) phase tells goes = λ over. absurd cc
lasts_on (steps.Ended why screen) phase tells goes = absurd goes

-- none ends it as at a full centre
pub never_full : (step : Step) (phase : Phase) → Tells step phase → EndedFor whys.Full step → ⊥
never_full step phase tells ended = (subst (λ (s : Step). Tells s phase) ended.1 tells) refl

-- what the step of a turn says fits the phase that follows
abbrev TellsOf : CallState × Step → Type 0
TellsOf turn = Tells turn.1 turn.0.phase

by_test : (test : Bool) (one other : CallState × Step) → TellsOf one → TellsOf other → TellsOf (if test then one else other)
by_test true one other is_one is_other = is_one
by_test false one other is_one is_other = is_other

module _ (moment : ℕ) where
  charging_tells : (call : CallState) (shown : ShownFrame) (charge : Option Charge) → call.phase ≡ Listening
      → TellsOf (charging_turn call shown charge)
  charging_tells call shown None listens = listens
  charging_tells call shown (Some charge) listens = refl

  found_tells : (call : CallState) (shown : ShownFrame) → call.phase ≡ Listening → TellsOf (found_turn call moment shown)
  found_tells call shown listens =
      let charge = charge_of call shown.name shown.frame.price moment in
      by_test (shown.frame.price == 0) (showing_turn call shown) (charging_turn call shown charge) listens
      (charging_tells call shown charge listens)

  fetch_tells : (call : CallState) (name : Name) (frame : Option Content) → call.phase ≡ Listening
      → TellsOf (fetch_turn call moment name frame)
  fetch_tells call name None listens = listens
  fetch_tells call name (Some frame) listens = found_tells call (record { name = name; frame = frame }) listens

  visit_tells : (call : CallState) (name : Name) (frame : Option Content) → call.phase ≡ Listening
      → TellsOf (visit_turn call moment name frame)
  visit_tells call name None listens = listens
  visit_tells call name (Some frame) listens =
      found_tells (record call { earlier = names_with call.present call.earlier }) (record { name = name; frame = frame }) listens

  route_tells : (call : CallState) (view : View) (page : Option ℕ) → call.phase ≡ Listening → TellsOf (route_turn call view moment page)
  route_tells call view None listens = listens
  route_tells call view (Some page) listens = visit_tells call (first_frame page) (view.pages (first_frame page)) listens

  next_tells : (call : CallState) (view : View) (present : Option ShownFrame) → call.phase ≡ Listening
      → TellsOf (next_turn call view moment present)
  next_tells call view None listens = visit_tells call (first_frame 0) (view.pages (first_frame 0)) listens
  next_tells call view (Some present) listens =
      let next : Name = record present.name { letter = present.name.letter + 1 } in
      by_test (present.name.letter == 122) (message_turn call messages.PageNotAvailable) (visit_turn call moment next (view.pages next))
      listens (visit_tells call next (view.pages next) listens)

  back_tells : (call : CallState) (view : View) (earlier : List Name) → call.phase ≡ Listening
      → TellsOf (back_turn call view moment earlier)
  back_tells call view [] listens = listens
  back_tells call view (name ∷ earlier) listens = fetch_tells (record call { earlier = earlier }) name (view.pages name) listens

  repeat_tells : (call : CallState) (present : Option ShownFrame) → call.phase ≡ Listening → TellsOf (repeat_turn call present)
  repeat_tells call None listens = listens
  repeat_tells call (Some present) listens = listens

  fresh_tells : (call : CallState) (view : View) (present : Option ShownFrame) → call.phase ≡ Listening
      → TellsOf (fresh_turn call view moment present)
  fresh_tells call view None listens = listens
  fresh_tells call view (Some present) listens = fetch_tells call present.name (view.pages present.name) listens

  letter_tells : (call : CallState) (letter : Option WaitingLetter) → call.phase ≡ Listening → TellsOf (letter_turn call letter)
  letter_tells call None listens = listens
  letter_tells call (Some letter) listens = listens

  command_tells : (call : CallState) (view : View) (command : Command) → call.phase ≡ Listening
      → TellsOf (command_turn call view moment command)
  command_tells call view (commands.Route digit) listens = route_tells call view (route_of_digit call.present digit) listens
  command_tells call view commands.Next listens = next_tells call view call.present listens
  command_tells call view (commands.Go page) listens = visit_tells call (first_frame page) (view.pages (first_frame page)) listens
  command_tells call view commands.Back listens = back_tells call view call.earlier listens
  command_tells call view commands.Repeat listens = repeat_tells call call.present listens
  command_tells call view commands.Fresh listens = fresh_tells call view call.present listens
  command_tells call view commands.Mail listens = letter_tells call view.letter listens
  command_tells call view commands.End listens = λ full. absurd cc
  command_tells call view commands.Cancel listens = listens
  command_tells call view commands.Slip listens = listens

  log_on_tells : (call : CallState) (caller : Option ℕ) → call.phase ≡ Listening → TellsOf (log_on_turn call caller)
  log_on_tells call (Some account) listens = refl
  log_on_tells call None listens =
      by_test (nat_lt (call.failed + 1) TRIES)
      (message_turn (record call { mode = AccountMode; keyed = []; account = None; failed = call.failed + 1 }) messages.NotKnown)
      (ending_turn call whys.Refused messages.CallRefused) listens (λ full. absurd cc)

  asking_tells : (call : CallState) (mode : Option Mode) → call.phase ≡ Listening → TellsOf (asking_turn call mode)
  asking_tells call (Some mode) listens = listens
  asking_tells call None listens = listens

  sending_tells : (call : CallState) (item : Option Item) → call.phase ≡ Listening → TellsOf (sending_turn call item)
  sending_tells call None listens = listens
  sending_tells call (Some item) listens = refl

  removing_tells : (call : CallState) (number : ℕ) (account : Option ℕ) → call.phase ≡ Listening
      → TellsOf (removing_turn call number account)
  removing_tells call number None listens = listens
  removing_tells call number (Some account) listens = refl

  entry_tells : (call : CallState) (view : View) (entry : Entry) → call.phase ≡ Listening → TellsOf (entry_turn call view moment entry)
  entry_tells call view (entries.Account account) listens = listens
  entry_tells call view (entries.Password password) listens = log_on_tells call (known_caller call.account view.account password) listens
  entry_tells call view (entries.Command command) listens = command_tells call view command listens
  entry_tells call view (entries.Field text) listens =
      let filled = take MAX_FIELDS (call.filled ++ text ∷ []) in
      asking_tells (record call { filled = filled }) (call.present >>= λ shown. field_mode shown.frame (length filled)) listens
  entry_tells call view entries.Send listens = sending_tells call (item_to_send call moment) listens
  entry_tells call view entries.Keep listens = listens
  entry_tells call view (entries.Delete number) listens = removing_tells call number call.account listens

  reading_listens : (call : CallState) (leaves : Bool) → call.phase ≡ Listening
      → (if leaves then browsing_call call else call).phase ≡ Listening
  reading_listens call true listens = listens
  reading_listens call false listens = listens

  byte_tells : (call : CallState) (byte : ℕ) (view : View) (entry : Option Entry) → call.phase ≡ Listening
      → TellsOf (byte_turn call byte view moment entry)
  byte_tells call byte view None listens = reading_listens call (leaves_mode call.mode byte) listens
  byte_tells call byte view (Some entry) listens =
      entry_tells (call_at_entry (reading_call call byte)) view entry (reading_listens call (leaves_mode call.mode byte) listens)

-- a step and a seat that come of a turn
told_by : (turn : CallState × Step) (after : CallState) (step : Step) → Goes turn after step → TellsOf turn → Tells step after.phase
told_by turn after step goes tells =
    subst (λ (s : Step). Tells s after.phase) (sym goes.step_is)
    (subst (λ (c : CallState). Tells turn.1 c.phase) (sym goes.after_is) tells)

listens_tells : (spent : Bool) (call after : CallState) (byte moment : ℕ) (view : View) (step : Step) → call.phase ≡ Listening
    → Listens spent call byte view moment after step → Tells step after.phase
listens_tells true call after byte moment view step listens goes = told_by _ after step goes (λ full. absurd cc)
listens_tells false call after byte moment view step listens hears =
    told_by _ after step hears.goes (byte_tells moment call byte view hears.entry listens)

turn_tells : (phase : Phase) (call after : CallState) (byte moment : ℕ) (view : View) (step : Step) → phase ≡ Listening
    → call.phase ≡ Listening → IsTurnIn phase call byte view moment after step → Tells step after.phase
turn_tells Listening call after byte moment view step is listens turns =
    listens_tells (is_spent call) call after byte moment view step listens turns
turn_tells (Owing wish) call after byte moment view step is listens turns = absurd cc
turn_tells Over call after byte moment view step is listens turns = absurd cc

-- the step of a byte that is taken by a call that owes nothing and is not over
pub key_tells : (call after : CallState) (byte moment : ℕ) (view : View) (step : Step) → call.phase ≡ Listening
    → IsTurn call byte view moment after step → Tells step after.phase
key_tells call after byte moment view step listens turns =
    turn_tells call.phase call after byte moment view step listens listens turns
