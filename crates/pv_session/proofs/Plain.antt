-- What a caller is sent depends neither on his call's serial nor on moments: a call goes on as the plain one does.
use Rattle.std.proofs.Common.{◌≡◌, ℕ, ◌+◌, Bool, true, false, List, [], ◌∷◌, ◌++◌, length, take, map, Option, Some, None, if◌then◌else◌, nat_lt, refl, sym, ap, subst, ◌∙◌}
use Rattle.std.specs.Prelude.{◌==◌, option_map}
use Rattle.pv_fields.specs.Reading.{◌>>=◌}
use Rattle.pv_page.specs.Names.{Name}
use Rattle.pv_charge.specs.Line.{Charge}
use Rattle.pv_frame.specs.Content.{Content}
use Rattle.pv_keys.specs.declared.command.Command.{Command}
use Rattle.pv_keys.specs.declared.command.Command.TheVariants as commands
use Rattle.pv_frame.specs.declared.kind.Kind.{Kind}
use Rattle.pv_frame.specs.declared.kind.Kind.TheVariants as kinds
use Rattle.pv_post.specs.Boxes.{WaitingLetter}
use Rattle.pv_post.specs.declared.fields.TheConstants.{MAX_FIELDS}
use Rattle.pv_post.specs.declared.item.Item.{Item}
use Rattle.pv_post.specs.declared.item.Item.TheVariants as items
use Rattle.pv_words.specs.Parts.{Exactly}
use Rattle.pv_edits.specs.Sight.{View}
use Rattle.pv_session.specs.declared.entry.Entry.{Entry}
use Rattle.pv_session.specs.declared.entry.Entry.TheVariants as entries
use Rattle.pv_session.specs.declared.message.Message.TheVariants as messages
use Rattle.pv_session.specs.declared.seat.TheConstants.{TRIES}
use Rattle.pv_session.specs.declared.step.Paid.{Paid}
use Rattle.pv_session.specs.declared.step.Paid.TheVariants as replies
use Rattle.pv_session.specs.declared.step.Phase.{Phase}
use Rattle.pv_session.specs.declared.step.Phase.TheVariants as phases
use Rattle.pv_session.specs.declared.step.Step.{Step}
use Rattle.pv_session.specs.declared.step.Step.TheVariants as steps
use Rattle.pv_session.specs.declared.step.Why.TheVariants as whys
use Rattle.pv_session.specs.declared.step.Wish.TheVariants as wishes
use Rattle.pv_session.specs.Calls.{CallEvent, Keyed, Stored, Refused, Happens, AreSteps, any_number, plain_charge, plain_item, plain_wish, plain_phase, plain_call, plain_reply, plain_event, sent_by}
use Rattle.pv_session.specs.Charging.{charge_of}
use Rattle.pv_session.specs.Entries.{Mode, AccountMode, IsEntry, leaves_mode}
use Rattle.pv_session.specs.Filling.{browsing_call, asking_turn, item_to_send, sending_turn, removing_turn}
use Rattle.pv_session.specs.Letters.{account_of_digits, letter_text, item_of}
use Rattle.pv_session.specs.Fetching.{message_turn, ending_turn, showing_turn, charging_turn, found_turn, fetch_turn, visit_turn, names_with, route_turn, next_turn, back_turn, repeat_turn, fresh_turn, letter_turn, command_turn}
use Rattle.pv_session.specs.Shown.{ShownFrame, first_frame, route_of_digit, field_mode}
use Rattle.pv_session.specs.State.{CallState}
use Rattle.pv_session.specs.Turns.{Goes, Listens, IsTurnIn, is_spent, known_caller, log_on_turn, entry_turn, reading_call, IsEntryOf, keys_with, read_turn, byte_turn, call_at_entry, charged_turn, storing_turn, full_turn}

-- a step, whatever the serial and the moment of what it owes
abbrev plain_step : Step → Step
plain_step steps.Quiet = steps.Quiet
plain_step (steps.Show screen) = steps.Show screen
plain_step (steps.Owe wish) = steps.Owe (plain_wish wish)
plain_step (steps.Ended why screen) = steps.Ended why screen

-- it sends what the step sends
sent_plain : (step : Step) → sent_by (plain_step step) ≡ sent_by step
sent_plain steps.Quiet = refl
sent_plain (steps.Show screen) = refl
sent_plain (steps.Owe wish) = refl
sent_plain (steps.Ended why screen) = refl

-- a turn in the same way
abbrev plain_turn : CallState × Step → CallState × Step
plain_turn turn = (plain_call turn.0, plain_step turn.1)

-- ---- what a key does to the plain call is the plain turn

-- a turn by a test
by_test : (test : Bool) (one other : CallState × Step)
    → (if test then plain_turn one else plain_turn other) ≡ plain_turn (if test then one else other)
by_test true one other = refl
by_test false one other = refl

module _ (moment : ℕ) where
  -- the charge of the plain call is the plain charge
  charge_plain : (serial account : Option ℕ) (number price : ℕ) (name : Name) →
      (option_map (λ _. any_number) serial >>= λ s. account >>= λ a. Some (record {
        serial = s;
        number = number;
        account = a;
        name = name;
        price = price;
        moment = any_number;
      }))
      ≡ option_map plain_charge (serial >>= λ s. account >>= λ a. Some (record {
        serial = s;
        number = number;
        account = a;
        name = name;
        price = price;
        moment = moment;
      }))
  charge_plain None account number price name = refl
  charge_plain (Some serial) None number price name = refl
  charge_plain (Some serial) (Some account) number price name = refl

  charging_plain : (call : CallState) (shown : ShownFrame) (charge : Option Charge)
      → charging_turn (plain_call call) shown (option_map plain_charge charge) ≡ plain_turn (charging_turn call shown charge)
  charging_plain call shown None = refl
  charging_plain call shown (Some charge) = refl

  found_plain : (call : CallState) (shown : ShownFrame)
      → found_turn (plain_call call) any_number shown ≡ plain_turn (found_turn call moment shown)
  found_plain call shown =
      let free = shown.frame.price == 0 in
      let charge = charge_of call shown.name shown.frame.price moment in
      let owed = charge_plain call.serial call.account call.lines shown.frame.price shown.name in
      ap (λ (t : CallState × Step). if free then plain_turn (showing_turn call shown) else t)
      (ap (λ (c : Option Charge). charging_turn (plain_call call) shown c) owed ∙ charging_plain call shown charge)
      ∙ by_test free (showing_turn call shown) (charging_turn call shown charge)

  fetch_plain : (call : CallState) (name : Name) (frame : Option Content)
      → fetch_turn (plain_call call) any_number name frame ≡ plain_turn (fetch_turn call moment name frame)
  fetch_plain call name None = refl
  fetch_plain call name (Some frame) = found_plain call (record { name = name; frame = frame })

  visit_plain : (call : CallState) (name : Name) (frame : Option Content)
      → visit_turn (plain_call call) any_number name frame ≡ plain_turn (visit_turn call moment name frame)
  visit_plain call name None = refl
  visit_plain call name (Some frame) =
      found_plain (record call { earlier = names_with call.present call.earlier }) (record { name = name; frame = frame })

  route_plain : (call : CallState) (view : View) (page : Option ℕ)
      → route_turn (plain_call call) view any_number page ≡ plain_turn (route_turn call view moment page)
  route_plain call view None = refl
  route_plain call view (Some page) = visit_plain call (first_frame page) (view.pages (first_frame page))

  next_plain : (call : CallState) (view : View) (present : Option ShownFrame)
      → next_turn (plain_call call) view any_number present ≡ plain_turn (next_turn call view moment present)
  next_plain call view None = visit_plain call (first_frame 0) (view.pages (first_frame 0))
  next_plain call view (Some present) =
      let next : Name = record present.name { letter = present.name.letter + 1 } in
      let last = present.name.letter == 122 in
      ap (λ (t : CallState × Step). if last then plain_turn (message_turn call messages.PageNotAvailable) else t)
      (visit_plain call next (view.pages next))
      ∙ by_test last (message_turn call messages.PageNotAvailable) (visit_turn call moment next (view.pages next))

  back_plain : (call : CallState) (view : View) (earlier : List Name)
      → back_turn (plain_call call) view any_number earlier ≡ plain_turn (back_turn call view moment earlier)
  back_plain call view [] = refl
  back_plain call view (name ∷ earlier) = fetch_plain (record call { earlier = earlier }) name (view.pages name)

  repeat_plain : (call : CallState) (present : Option ShownFrame)
      → repeat_turn (plain_call call) present ≡ plain_turn (repeat_turn call present)
  repeat_plain call None = refl
  repeat_plain call (Some present) = refl

  fresh_plain : (call : CallState) (view : View) (present : Option ShownFrame)
      → fresh_turn (plain_call call) view any_number present ≡ plain_turn (fresh_turn call view moment present)
  fresh_plain call view None = refl
  fresh_plain call view (Some present) = fetch_plain call present.name (view.pages present.name)

  letter_plain : (call : CallState) (waiting : Option WaitingLetter)
      → letter_turn (plain_call call) waiting ≡ plain_turn (letter_turn call waiting)
  letter_plain call None = refl
  letter_plain call (Some waiting) = refl

  -- what is sent is the plain item
  addressed_plain : (sender : ℕ) (to : Option ℕ) (text : List ℕ) →
      option_map items.Mail (to >>= λ a. Some (record { sender = sender; to = a; moment = any_number; text = text }))
      ≡ option_map plain_item (option_map items.Mail (to >>= λ a. Some (record {
        sender = sender;
        to = a;
        moment = moment;
        text = text;
      })))
  addressed_plain sender None text = refl
  addressed_plain sender (Some to) text = refl

  item_plain : (kind : Kind) (account : ℕ) (name : Name) (filled : List (List ℕ))
      → item_of kind account name any_number filled ≡ option_map plain_item (item_of kind account name moment filled)
  item_plain kinds.Information account name filled = refl
  item_plain kinds.Response account name [] = refl
  item_plain kinds.Response account name (text ∷ others) = refl
  item_plain kinds.Mail account name [] = refl
  item_plain kinds.Mail account name (to ∷ rows) = addressed_plain account (account_of_digits to) (letter_text rows)

  to_send_plain : (account : Option ℕ) (present : Option ShownFrame) (filled : List (List ℕ))
      → (account >>= λ a. present >>= λ shown. item_of shown.frame.kind a shown.name any_number filled)
      ≡ option_map plain_item (account >>= λ a. present >>= λ shown. item_of shown.frame.kind a shown.name moment filled)
  to_send_plain None present filled = refl
  to_send_plain (Some account) None filled = refl
  to_send_plain (Some account) (Some shown) filled = item_plain shown.frame.kind account shown.name filled

  sending_plain : (call : CallState) (item : Option Item)
      → sending_turn (plain_call call) (option_map plain_item item) ≡ plain_turn (sending_turn call item)
  sending_plain call None = refl
  sending_plain call (Some item) = refl

  removing_plain : (call : CallState) (number : ℕ) (account : Option ℕ)
      → removing_turn (plain_call call) number account ≡ plain_turn (removing_turn call number account)
  removing_plain call number None = refl
  removing_plain call number (Some account) = refl

  asking_plain : (call : CallState) (mode : Option Mode) → asking_turn (plain_call call) mode ≡ plain_turn (asking_turn call mode)
  asking_plain call None = refl
  asking_plain call (Some mode) = refl

  command_plain : (call : CallState) (view : View) (command : Command)
      → command_turn (plain_call call) view any_number command ≡ plain_turn (command_turn call view moment command)
  command_plain call view (commands.Route digit) = route_plain call view (route_of_digit call.present digit)
  command_plain call view commands.Next = next_plain call view call.present
  command_plain call view (commands.Go page) = visit_plain call (first_frame page) (view.pages (first_frame page))
  command_plain call view commands.Back = back_plain call view call.earlier
  command_plain call view commands.Repeat = repeat_plain call call.present
  command_plain call view commands.Fresh = fresh_plain call view call.present
  command_plain call view commands.Mail = letter_plain call view.letter
  command_plain call view commands.End = refl
  command_plain call view commands.Cancel = refl
  command_plain call view commands.Slip = refl

  log_on_plain : (call : CallState) (caller : Option ℕ) → log_on_turn (plain_call call) caller ≡ plain_turn (log_on_turn call caller)
  log_on_plain call (Some account) = refl
  log_on_plain call None =
      let again : CallState = record call { mode = AccountMode; keyed = []; account = None; failed = call.failed + 1 } in
      by_test (nat_lt (call.failed + 1) TRIES) (message_turn again messages.NotKnown) (ending_turn call whys.Refused messages.CallRefused)

  entry_plain : (call : CallState) (view : View) (entry : Entry)
      → entry_turn (plain_call call) view any_number entry ≡ plain_turn (entry_turn call view moment entry)
  entry_plain call view (entries.Account account) = refl
  entry_plain call view (entries.Password password) = log_on_plain call (known_caller call.account view.account password)
  entry_plain call view (entries.Command command) = command_plain call view command
  entry_plain call view (entries.Field text) =
      let filled = take MAX_FIELDS (call.filled ++ text ∷ []) in
      asking_plain (record call { filled = filled }) (call.present >>= λ shown. field_mode shown.frame (length filled))
  entry_plain call view entries.Send =
      ap (λ (item : Option Item). sending_turn (plain_call call) item) (to_send_plain call.account call.present call.filled)
      ∙ sending_plain call (item_to_send call moment)
  entry_plain call view entries.Keep = refl
  entry_plain call view (entries.Delete number) = removing_plain call number call.account

  read_plain : (call : CallState) (byte : ℕ) (view : View) (entry : Option Entry)
      → read_turn (plain_call call) byte view any_number entry ≡ plain_turn (read_turn call byte view moment entry)
  read_plain call byte view None = refl
  read_plain call byte view (Some entry) = entry_plain (call_at_entry call) view entry

-- a byte that leaves a mode leaves it in the plain call
reading_plain : (leaves : Bool) (call : CallState)
    → (if leaves then browsing_call (plain_call call) else plain_call call) ≡ plain_call (if leaves then browsing_call call else call)
reading_plain true call = refl
reading_plain false call = refl

byte_plain : (moment : ℕ) (call : CallState) (byte : ℕ) (view : View) (entry : Option Entry)
    → byte_turn (plain_call call) byte view any_number entry ≡ plain_turn (byte_turn call byte view moment entry)
byte_plain moment call byte view entry =
    ap (λ (c : CallState). read_turn c byte view any_number entry) (reading_plain (leaves_mode call.mode byte) call)
    ∙ read_plain moment (reading_call call byte) byte view entry

-- so the keys say the same
says_plain : (call : CallState) (byte : ℕ) (entry : Option Entry) → Exactly (IsEntryOf call byte) entry
    → Exactly (IsEntryOf (plain_call call) byte) entry
says_plain call byte entry says =
    let same = reading_plain (leaves_mode call.mode byte) call in
    subst (λ (c : CallState). Exactly (IsEntry c.mode (keys_with c byte)) entry) (sym same) says

says_back : (call : CallState) (byte : ℕ) (entry : Option Entry) → Exactly (IsEntryOf (plain_call call) byte) entry
    → Exactly (IsEntryOf call byte) entry
says_back call byte entry says =
    let same = reading_plain (leaves_mode call.mode byte) call in
    subst (λ (c : CallState). Exactly (IsEntry c.mode (keys_with c byte)) entry) same says

-- what a reply does in the same way
charged_plain : (call : CallState) (shown : Option ShownFrame)
    → charged_turn (plain_call call) shown ≡ plain_turn (charged_turn call shown)
charged_plain call None = refl
charged_plain call (Some shown) = refl

storing_plain : (call : CallState) (phase : Phase) (reply : Paid)
    → storing_turn (plain_call call) (plain_phase phase) (plain_reply reply) ≡ plain_turn (storing_turn call phase reply)
storing_plain call phases.Listening reply = refl
storing_plain call (phases.Owing (wishes.LogOn account)) (replies.Serial serial) = refl
storing_plain call (phases.Owing (wishes.LogOn account)) replies.Stored = refl
storing_plain call (phases.Owing (wishes.Charge charge)) (replies.Serial serial) = refl
storing_plain call (phases.Owing (wishes.Charge charge)) replies.Stored = charged_plain call call.aside
storing_plain call (phases.Owing (wishes.Post item)) (replies.Serial serial) = refl
storing_plain call (phases.Owing (wishes.Post item)) replies.Stored = refl
storing_plain call (phases.Owing (wishes.Remove account number)) (replies.Serial serial) = refl
storing_plain call (phases.Owing (wishes.Remove account number)) replies.Stored = refl
storing_plain call phases.Over reply = refl

full_plain : (call : CallState) (phase : Phase) → full_turn (plain_call call) (plain_phase phase) ≡ plain_turn (full_turn call phase)
full_plain call phases.Listening = refl
full_plain call (phases.Owing wish) = refl
full_plain call phases.Over = refl

-- ---- an event, from a call to the plain one and back

-- a call and a step after what happens to a call are these, once they are made plain
record Returns (Is : CallState → Step → Type 0) (after : CallState) (step : Step) : Type 0 where
  call : CallState
  its : Step
  is : Is call its
  after_is : after ≡ plain_call call
  step_is : step ≡ plain_step its

goes_plain : (turn there : CallState × Step) (after : CallState) (step : Step) → there ≡ plain_turn turn → Goes turn after step
    → Goes there (plain_call after) (plain_step step)
goes_plain turn there after step same goes = record {
  after_is = ap plain_call goes.after_is ∙ ap (λ (t : CallState × Step). t.0) (sym same);
  step_is = ap plain_step goes.step_is ∙ ap (λ (t : CallState × Step). t.1) (sym same);
}

goes_back : (turn there : CallState × Step) (after : CallState) (step : Step) → there ≡ plain_turn turn → Goes there after step
    → Returns (Goes turn) after step
goes_back turn there after step same goes = record {
  call = turn.0;
  its = turn.1;
  is = record { after_is = refl; step_is = refl };
  after_is = goes.after_is ∙ ap (λ (t : CallState × Step). t.0) same;
  step_is = goes.step_is ∙ ap (λ (t : CallState × Step). t.1) same;
}

module _ (moment : ℕ) (view : View) where
  listens_plain : (spent : Bool) (call after : CallState) (byte : ℕ) (step : Step) → Listens spent call byte view moment after step
      → Listens spent (plain_call call) byte view any_number (plain_call after) (plain_step step)
  listens_plain true call after byte step goes = goes_plain _ _ after step refl goes
  listens_plain false call after byte step hears = record {
    entry = hears.entry;
    says = says_plain call byte hears.entry hears.says;
    goes = goes_plain _ _ after step (byte_plain moment call byte view hears.entry) hears.goes;
  }

  key_plain : (phase : Phase) (call after : CallState) (byte : ℕ) (step : Step) → IsTurnIn phase call byte view moment after step
      → IsTurnIn (plain_phase phase) (plain_call call) byte view any_number (plain_call after) (plain_step step)
  key_plain phases.Listening call after byte step turns = listens_plain (is_spent call) call after byte step turns
  key_plain (phases.Owing wish) call after byte step goes = goes_plain _ _ after step refl goes
  key_plain phases.Over call after byte step goes = goes_plain _ _ after step refl goes

  hears_back : (call after : CallState) (byte : ℕ) (step : Step) → Listens false (plain_call call) byte view any_number after step
      → Returns (Listens false call byte view moment) after step
  hears_back call after byte step hears =
      let back = goes_back _ _ after step (byte_plain moment call byte view hears.entry) hears.goes in record {
        call = back.call;
        its = back.its;
        is = record { entry = hears.entry; says = says_back call byte hears.entry hears.says; goes = back.is };
        after_is = back.after_is;
        step_is = back.step_is;
      }

  listens_back : (spent : Bool) (call after : CallState) (byte : ℕ) (step : Step)
      → Listens spent (plain_call call) byte view any_number after step → Returns (Listens spent call byte view moment) after step
  listens_back true call after byte step goes = goes_back _ _ after step refl goes
  listens_back false call after byte step hears = hears_back call after byte step hears

  key_back : (phase : Phase) (call after : CallState) (byte : ℕ) (step : Step)
      → IsTurnIn (plain_phase phase) (plain_call call) byte view any_number after step
      → Returns (IsTurnIn phase call byte view moment) after step
  key_back phases.Listening call after byte step turns = listens_back (is_spent call) call after byte step turns
  key_back (phases.Owing wish) call after byte step goes = goes_back _ _ after step refl goes
  key_back phases.Over call after byte step goes = goes_back _ _ after step refl goes

event_plain : (call after : CallState) (event : CallEvent) (step : Step) → Happens call event after step
    → Happens (plain_call call) (plain_event event) (plain_call after) (plain_step step)
event_plain call after (Keyed byte view moment) step happens = key_plain moment view call.phase call after byte step happens
event_plain call after (Stored reply) step happens = goes_plain _ _ after step (storing_plain call call.phase reply) happens
event_plain call after Refused step happens = goes_plain _ _ after step (full_plain call call.phase) happens

event_back : (call after : CallState) (event : CallEvent) (step : Step)
    → Happens (plain_call call) (plain_event event) after step → Returns (Happens call event) after step
event_back call after (Keyed byte view moment) step happens = key_back moment view call.phase call after byte step happens
event_back call after (Stored reply) step happens = goes_back _ _ after step (storing_plain call call.phase reply) happens
event_back call after Refused step happens = goes_back _ _ after step (full_plain call call.phase) happens

-- ---- a whole call

-- what is like another call goes on like it
like_event : (call other after : CallState) (event there : CallEvent) (step : Step) → plain_call call ≡ plain_call other
    → plain_event event ≡ plain_event there → Happens call event after step
    → Returns (Happens other there) (plain_call after) (plain_step step)
like_event call other after event there step calls events happens =
    let plain = event_plain call after event step happens in
    event_back other (plain_call after) there (plain_step step)
    (subst (λ (e : CallEvent). Happens (plain_call other) e (plain_call after) (plain_step step)) events
    (subst (λ (c : CallState). Happens c (plain_event event) (plain_call after) (plain_step step)) calls plain))

-- so does a whole call
pub other_calls : (events others : List CallEvent) (call other after : CallState) (steps : List Step)
    → plain_call call ≡ plain_call other → map plain_event events ≡ map plain_event others → AreSteps call events steps after
    → (end : CallState) × (there : List Step) × AreSteps other others there end
    × (plain_call after ≡ plain_call end) × (map sent_by steps ≡ map sent_by there)
other_calls [] [] call other after [] calls events is =
    (other, [], refl, ap plain_call (sym is) ∙ calls, refl)
other_calls [] [] call other after (step ∷ steps) calls events is = absurd is
other_calls [] (there ∷ others) call other after steps calls events is = absurd cc
other_calls (event ∷ events) [] call other after steps calls same is = absurd cc
other_calls (event ∷ events) (there ∷ others) call other after [] calls same is = absurd is
other_calls (event ∷ events) (there ∷ others) call other after (step ∷ steps) calls same (next, happens, more) =
    let first : plain_event event ≡ plain_event there = cc in
    let rest : map plain_event events ≡ map plain_event others = cc in
    let head = like_event call other next event there step calls first happens in
    let (end, sent, goes, ends, same_sent) = other_calls events others next head.call after steps head.after_is rest more in
    let here : sent_by step ≡ sent_by head.its = sym (sent_plain step) ∙ ap sent_by head.step_is ∙ sent_plain head.its in
    (end, head.its ∷ sent, (head.call, head.is, goes), ends, λ i. here i ∷ same_sent i)
