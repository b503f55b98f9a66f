-- A caller stays who he is, and what his call owes is its own.
use Rattle.std.proofs.Common.{◌≡◌, ℕ, ◌+◌, Bool, true, false, List, [], ◌∷◌, ◌++◌, length, take, Option, Some, None, if◌then◌else◌, nat_lt, refl, sym, ap, subst, ◌∙◌}
use Rattle.std.specs.Prelude.{◌&&◌, ◌==◌, is_some, IsSome, IfSome, option_map, unwrap_or, slice_get}
use Rattle.pv_fields.specs.Reading.{◌>>=◌}
use Rattle.pv_page.specs.Names.{Name}
use Rattle.pv_account.specs.Profile.{Profile}
use Rattle.pv_charge.specs.Line.{Charge}
use Rattle.pv_frame.specs.Content.{Content}
use Rattle.pv_frame.specs.declared.field.Field.{Field}
use Rattle.pv_frame.specs.declared.kind.Kind.{Kind}
use Rattle.pv_frame.specs.declared.kind.Kind.TheVariants as kinds
use Rattle.pv_keys.specs.declared.command.Command.{Command}
use Rattle.pv_post.specs.Boxes.{WaitingLetter}
use Rattle.pv_post.specs.declared.fields.TheConstants.{MAX_FIELDS}
use Rattle.pv_post.specs.declared.item.Item.{Item}
use Rattle.pv_post.specs.declared.item.Item.TheVariants as items
use Rattle.pv_edits.specs.Sight.{View}
use Rattle.pv_session.specs.declared.entry.Entry.{Entry}
use Rattle.pv_session.specs.declared.entry.Entry.TheVariants as entries
use Rattle.pv_session.specs.declared.message.Message.TheVariants as messages
use Rattle.pv_session.specs.declared.seat.TheConstants.{TRIES}
use Rattle.pv_session.specs.declared.step.Paid.{Paid}
use Rattle.pv_session.specs.declared.step.Paid.TheVariants as replies
use Rattle.pv_session.specs.declared.step.Phase.{Phase}
use Rattle.pv_session.specs.declared.step.Phase.TheVariants as phases
use Rattle.pv_session.specs.declared.step.Step.{Step}
use Rattle.pv_session.specs.declared.step.Why.TheVariants as whys
use Rattle.pv_session.specs.declared.step.Wish.{Wish}
use Rattle.pv_session.specs.declared.step.Wish.TheVariants as wishes
use Rattle.pv_session.specs.Callers.{has_logged_on, sender_of, IsOwnCharge, IsOwn, IsCallState}
use Rattle.pv_session.specs.Calls.{CallEvent, Keyed, Stored, Refused, Happens, serial_after, lines_after, IsSameCaller}
use Rattle.pv_session.specs.Charging.{charge_of}
use Rattle.pv_session.specs.Entries.{Mode, AccountMode, PasswordMode, BrowseMode, FillMode, QuestionMode, LetterMode, leaves_mode, IsEntry}
use Rattle.pv_session.specs.Fetching.{message_turn, ending_turn, showing_turn, charging_turn, letter_turn}
use Rattle.pv_session.specs.Filling.{browsing_call, asking_turn, item_to_send, sending_turn, removing_turn}
use Rattle.pv_session.specs.Letters.{account_of_digits, letter_text, item_of}
use Rattle.pv_session.specs.Shown.{ShownFrame, is_letter_form, field_mode, mode_at}
use Rattle.pv_session.specs.State.{CallState, new_call, wish_in}
use Rattle.pv_session.specs.Turns.{Listens, IsTurnIn, is_spent, is_password_of, known_caller, log_on_turn, entry_turn, reading_call, IsEntryOf, keys_with, read_turn, byte_turn, call_at_entry, charged_turn, storing_turn, full_turn}
use Rattle.pv_session.proofs.EachTurn.{by_test, command_holds}

-- a call after an event is one, with the same caller
record Stays (call : CallState) (event : CallEvent) (after : CallState) : Type 0 where
  is : IsCallState after
  same : IsSameCaller call event after

-- a call that begins
pub new_is : IsCallState new_call
new_is = record { serial = refl; account = λ has. absurd cc; lines = λ none. refl; owed = tt }

-- no serial is there
no_serial : (serial : Option ℕ) → is_some serial ≡ false → serial ≡ None
no_serial None none = refl
no_serial (Some serial) none = absurd cc

-- ---- calls of the same caller, which owe nothing

-- a call is like another in all that counts, and owes nothing
record IsFree (call other : CallState) : Type 0 where
  serial : other.serial ≡ call.serial
  lines : other.lines ≡ call.lines
  account : other.account ≡ call.account
  mode : has_logged_on other.mode ≡ has_logged_on call.mode
  free : wish_in other.phase ≡ None

free_is : (call other : CallState) → IsCallState call → IsFree call other → IsCallState other
free_is call other is like = record {
  serial = ap is_some like.serial ∙ is.serial ∙ sym like.mode;
  account = λ has. subst IsSome (sym like.account) (is.account (subst IsSome like.serial has));
  lines = λ none. like.lines ∙ is.lines (sym like.serial ∙ none);
  owed = subst (λ (wish : Option Wish). IfSome wish (IsOwn other)) (sym like.free) tt;
}

-- ---- modes of callers who have logged on

-- a caller who fills a field, or sees a frame
logged_in_field : (field : Option Field) (full : Bool)
    → has_logged_on (unwrap_or (option_map (λ f. FillMode f full) field) BrowseMode) ≡ true
logged_in_field None full = refl
logged_in_field (Some field) full = refl

logged_at : (frame : Content) → has_logged_on (mode_at frame) ≡ true
logged_at frame = logged_in_field (slice_get frame.fields 0) (is_letter_form frame.kind && true)

-- a caller who is asked for the next field
logged_next : (present : Option ShownFrame) (index : ℕ) (mode : Mode)
    → (present >>= λ shown. field_mode shown.frame index) ≡ Some mode → has_logged_on mode ≡ true
logged_next None index mode is = absurd cc
logged_next (Some shown) index mode is = of_field (slice_get shown.frame.fields index) is
  where
    of_field : (field : Option Field)
        → option_map (λ f. FillMode f (is_letter_form shown.frame.kind && index == 0)) field ≡ Some mode → has_logged_on mode ≡ true
    of_field None is = absurd cc
    of_field (Some field) is = let same : FillMode field (is_letter_form shown.frame.kind && index == 0) ≡ mode = cc in
        ap has_logged_on (sym same)

-- a mode that a byte leaves
logged_left : (mode : Mode) (byte : ℕ) → leaves_mode mode byte ≡ true → has_logged_on mode ≡ true
logged_left AccountMode byte leaves = absurd cc
logged_left PasswordMode byte leaves = absurd cc
logged_left BrowseMode byte leaves = refl
logged_left (FillMode field full) byte leaves = refl
logged_left QuestionMode byte leaves = refl
logged_left (LetterMode number) byte leaves = refl

-- an entry that is neither an account nor a password
abbrev is_callers : Entry → Bool
is_callers (entries.Account account) = false
is_callers (entries.Password password) = false
is_callers (entries.Command command) = true
is_callers (entries.Field text) = true
is_callers entries.Send = true
is_callers entries.Keep = true
is_callers (entries.Delete number) = true

-- it is keyed by a caller who has logged on alone, and the others before that alone
logged_by : (mode : Mode) (keys : List ℕ) (entry : Entry) → IsEntry mode keys entry → has_logged_on mode ≡ is_callers entry
logged_by AccountMode keys (entries.Account account) says = refl
logged_by AccountMode keys (entries.Password password) says = absurd says
logged_by AccountMode keys (entries.Command command) says = absurd says
logged_by AccountMode keys (entries.Field text) says = absurd says
logged_by AccountMode keys entries.Send says = absurd says
logged_by AccountMode keys entries.Keep says = absurd says
logged_by AccountMode keys (entries.Delete number) says = absurd says
logged_by PasswordMode keys (entries.Account account) says = absurd says
logged_by PasswordMode keys (entries.Password password) says = refl
logged_by PasswordMode keys (entries.Command command) says = absurd says
logged_by PasswordMode keys (entries.Field text) says = absurd says
logged_by PasswordMode keys entries.Send says = absurd says
logged_by PasswordMode keys entries.Keep says = absurd says
logged_by PasswordMode keys (entries.Delete number) says = absurd says
logged_by BrowseMode keys (entries.Account account) says = absurd says
logged_by BrowseMode keys (entries.Password password) says = absurd says
logged_by BrowseMode keys (entries.Command command) says = refl
logged_by BrowseMode keys (entries.Field text) says = refl
logged_by BrowseMode keys entries.Send says = refl
logged_by BrowseMode keys entries.Keep says = refl
logged_by BrowseMode keys (entries.Delete number) says = refl
logged_by (FillMode field full) keys (entries.Account account) says = absurd says
logged_by (FillMode field full) keys (entries.Password password) says = absurd says
logged_by (FillMode field full) keys (entries.Command command) says = refl
logged_by (FillMode field full) keys (entries.Field text) says = refl
logged_by (FillMode field full) keys entries.Send says = refl
logged_by (FillMode field full) keys entries.Keep says = refl
logged_by (FillMode field full) keys (entries.Delete number) says = refl
logged_by QuestionMode keys (entries.Account account) says = absurd says
logged_by QuestionMode keys (entries.Password password) says = absurd says
logged_by QuestionMode keys (entries.Command command) says = refl
logged_by QuestionMode keys (entries.Field text) says = refl
logged_by QuestionMode keys entries.Send says = refl
logged_by QuestionMode keys entries.Keep says = refl
logged_by QuestionMode keys (entries.Delete number) says = refl
logged_by (LetterMode letter) keys (entries.Account account) says = absurd says
logged_by (LetterMode letter) keys (entries.Password password) says = absurd says
logged_by (LetterMode letter) keys (entries.Command command) says = refl
logged_by (LetterMode letter) keys (entries.Field text) says = refl
logged_by (LetterMode letter) keys entries.Send says = refl
logged_by (LetterMode letter) keys entries.Keep says = refl
logged_by (LetterMode letter) keys (entries.Delete number) says = refl

-- ---- what is owed is the call's own

-- what is sent is sent by the account
sent_by_account : (kind : Kind) (account moment : ℕ) (name : Name) (filled : List (List ℕ)) (item : Item)
    → item_of kind account name moment filled ≡ Some item → Some account ≡ sender_of item
sent_by_account kinds.Information account moment name filled item is = absurd cc
sent_by_account kinds.Response account moment name [] item is = absurd cc
sent_by_account kinds.Response account moment name (text ∷ others) item is =
    let made : Item = items.Reply (record { account = account; name = name; moment = moment; fields = text ∷ others }) in
    let same : made ≡ item = cc in ap sender_of same
sent_by_account kinds.Mail account moment name [] item is = absurd cc
sent_by_account kinds.Mail account moment name (to ∷ rows) item is = of_addressee (account_of_digits to) is
  where
    of_addressee : (addressee : Option ℕ)
        → option_map items.Mail (addressee >>= λ a. Some (record { sender = account; to = a; moment = moment; text = letter_text rows }))
        ≡ Some item → Some account ≡ sender_of item
    of_addressee None is = absurd cc
    of_addressee (Some a) is =
        let made : Item = items.Mail (record { sender = account; to = a; moment = moment; text = letter_text rows }) in
        let same : made ≡ item = cc in ap sender_of same

sent_by_caller : (account : Option ℕ) (present : Option ShownFrame) (moment : ℕ) (filled : List (List ℕ)) (item : Item)
    → (account >>= λ a. present >>= λ shown. item_of shown.frame.kind a shown.name moment filled) ≡ Some item
    → IsSome account × (account ≡ sender_of item)
sent_by_caller None present moment filled item is = absurd cc
sent_by_caller (Some account) None moment filled item is = absurd cc
sent_by_caller (Some account) (Some shown) moment filled item is =
    (refl, sent_by_account shown.frame.kind account moment shown.name filled item is)

-- the parts of a charge that is owed
charge_parts : (serial account : Option ℕ) (number price moment : ℕ) (name : Name) (charge : Charge)
    → (serial >>= λ s. account >>= λ a. Some (record {
      serial = s;
      number = number;
      account = a;
      name = name;
      price = price;
      moment = moment;
    })) ≡ Some charge
    → (serial ≡ Some charge.serial) × (charge.number ≡ number) × (account ≡ Some charge.account)
    × (charge.name ≡ name) × (charge.price ≡ price)
charge_parts None account number price moment name charge is = absurd cc
charge_parts (Some serial) None number price moment name charge is = absurd cc
charge_parts (Some serial) (Some account) number price moment name charge is =
    let made : Charge = record {
      serial = serial;
      number = number;
      account = account;
      name = name;
      price = price;
      moment = moment;
    } in
    let same : made ≡ charge = cc in (
      ap (λ (c : Charge). Some c.serial) same,
      ap (λ (c : Charge). c.number) (sym same),
      ap (λ (c : Charge). Some c.account) same,
      ap (λ (c : Charge). c.name) (sym same),
      ap (λ (c : Charge). c.price) (sym same),
    )

-- ---- a byte

module _ (call : CallState) (is : IsCallState call) (byte : ℕ) (view : View) (moment : ℕ) where
  -- a turn leaves the caller who he is
  abbrev Holds : CallState × Step → Type 0
  Holds turn = Stays call (Keyed byte view moment) turn.0

  -- a call after the byte, in which nothing counts that it changes
  free_stays : (other : CallState) → IsFree call other → Stays call (Keyed byte view moment) other
  free_stays other like = record {
    is = free_is call other is like;
    same = record { serial = like.serial; lines = like.lines; account = λ has. like.account };
  }

  -- something is owed that is the call's own
  owing_stays : (other : CallState) (wish : Wish) → IsFree call other → IsOwn (record other { phase = phases.Owing wish }) wish
      → Stays call (Keyed byte view moment) (record other { phase = phases.Owing wish })
  owing_stays other wish like own =
      let before = free_is call other is like in record {
        is = record { serial = before.serial; account = before.account; lines = before.lines; owed = own };
        same = record { serial = like.serial; lines = like.lines; account = λ has. like.account };
      }

  -- the call is over
  over_stays : (other : CallState) → IsFree call other
      → Stays call (Keyed byte view moment) (record other { phase = phases.Over })
  over_stays other like = free_stays (record other { phase = phases.Over })
      (record { serial = like.serial; lines = like.lines; account = like.account; mode = like.mode; free = refl })

  -- the names before it count nothing
  earlier_free : (other : CallState) (earlier : List Name) → IsFree call other → IsFree call (record other { earlier = earlier })
  earlier_free other earlier like =
      record { serial = like.serial; lines = like.lines; account = like.account; mode = like.mode; free = like.free }

  -- a charge is owed
  charging_stays : (other : CallState) (shown : ShownFrame) (charge : Charge)
      → charge_of other shown.name shown.frame.price moment ≡ Some charge → IsFree call other
      → Holds (charging_turn other shown (Some charge))
  charging_stays other shown charge its like =
      let before = free_is call other is like in
      let (serial, number, account, name, price) =
      charge_parts other.serial other.account other.lines shown.frame.price moment shown.name charge its in record {
        is = record {
          serial = before.serial;
          account = before.account;
          lines = before.lines;
          owed = record {
            serial = serial;
            number = number;
            account = account;
            aside = (shown, refl, record { name = name; price = price });
          };
        };
        same = record { serial = like.serial; lines = like.lines; account = λ has. like.account };
      }

  -- of a caller who has logged on
  module _ (logged : has_logged_on call.mode ≡ true) where
    -- he is asked for something else
    asked_free : (other : CallState) (mode : Mode) (filled : List (List ℕ)) → IsFree call other → has_logged_on mode ≡ true
        → IsFree call (record other { mode = mode; keyed = []; filled = filled })
    asked_free other mode filled like on =
        record { serial = like.serial; lines = like.lines; account = like.account; mode = on ∙ sym logged; free = like.free }

    -- a frame becomes the present one
    showing_stays : (other : CallState) (shown : ShownFrame) → IsFree call other → Holds (showing_turn other shown)
    showing_stays other shown like = free_stays (showing_turn other shown).0 (record {
      serial = like.serial;
      lines = like.lines;
      account = like.account;
      mode = logged_at shown.frame ∙ sym logged;
      free = like.free;
    })

    -- a letter is shown
    letter_stays : (other : CallState) (waiting : WaitingLetter) → IsFree call other → Holds (letter_turn other (Some waiting))
    letter_stays other waiting like =
        free_stays (letter_turn other (Some waiting)).0 (asked_free other (LetterMode waiting.number) other.filled like refl)

    -- he is asked for a command
    browsing_stays : (other : CallState) → IsFree call other → Stays call (Keyed byte view moment) (browsing_call other)
    browsing_stays other like = free_stays (browsing_call other) (asked_free other BrowseMode [] like refl)

    -- any command
    command_stays : (other : CallState) (command : Command) → IsFree call other
        → Holds (entry_turn other view moment (entries.Command command))
    command_stays other command like =
        command_holds (IsFree call) Holds moment earlier_free (λ c _ fits. free_stays c fits) (λ c _ fits. free_stays c fits)
        (λ c _ _ fits. over_stays c fits) showing_stays letter_stays charging_stays other view command like

    -- the next field, or the question
    asking_stays_on : (other : CallState) (filled : List (List ℕ)) (mode : Option Mode) → IsFree call other
        → ((m : Mode) → mode ≡ Some m → has_logged_on m ≡ true)
        → Holds (asking_turn (record other { filled = filled }) mode)
    asking_stays_on other filled None like on =
        free_stays (record other { mode = QuestionMode; keyed = []; filled = filled }) (asked_free other QuestionMode filled like refl)
    asking_stays_on other filled (Some mode) like on =
        free_stays (record other { mode = mode; keyed = []; filled = filled }) (asked_free other mode filled like (on mode refl))

    -- what is sent or removed
    sending_stays : (other : CallState) (item : Option Item) → item_to_send other moment ≡ item → IsFree call other
        → Holds (sending_turn other item)
    sending_stays other None its like = browsing_stays other like
    sending_stays other (Some item) its like =
        let sent = sent_by_caller other.account other.present moment other.filled item its in
        owing_stays other (wishes.Post item) like (ap is_some like.serial ∙ is.serial ∙ logged, sent.0, sent.1)

    removing_stays : (other : CallState) (number : ℕ) (account : Option ℕ) → other.account ≡ account → IsFree call other
        → Holds (removing_turn other number account)
    removing_stays other number None its like = browsing_stays other like
    removing_stays other number (Some account) its like =
        owing_stays other (wishes.Remove account number) like (ap is_some like.serial ∙ is.serial ∙ logged, its)

  -- a caller who has not logged on is asked for something
  asking_stays : (other : CallState) (mode : Mode) (account : Option ℕ) (failed : ℕ) → IsFree call other → call.serial ≡ None
      → has_logged_on mode ≡ false
      → Stays call (Keyed byte view moment) (record other { mode = mode; keyed = []; account = account; failed = failed })
  asking_stays other mode account failed like none before =
      let asked : CallState = record other { mode = mode; keyed = []; account = account; failed = failed } in
      let unserialled = like.serial ∙ none in record {
        is = record {
          serial = ap is_some unserialled ∙ sym before;
          account = λ has. let never = subst IsSome unserialled has in absurd cc;
          lines = λ _. like.lines ∙ is.lines none;
          owed = subst (λ (wish : Option Wish). IfSome wish (IsOwn asked)) (sym like.free) tt;
        };
        same = record {
          serial = like.serial;
          lines = like.lines;
          account = λ has. let never = subst IsSome unserialled has in absurd cc;
        };
      }

  -- who is known is the caller who keyed his account
  known_is : (keyed : Option ℕ) (profile : Option Profile) (password : List ℕ) (account : ℕ)
      → known_caller keyed profile password ≡ Some account → keyed ≡ Some account
  known_is None profile password account known = absurd cc
  known_is (Some number) None password account known = absurd cc
  known_is (Some number) (Some profile) password account known = by (is_password_of profile password) known
    where
      by : (test : Bool) → (if test then Some number else None) ≡ Some account → Some number ≡ Some account
      by true same = same
      by false same = absurd cc

  -- a password
  log_on_stays : (other : CallState) (caller : Option ℕ) → IsFree call other → call.serial ≡ None
      → ((account : ℕ) → caller ≡ Some account → other.account ≡ Some account) → Holds (log_on_turn other caller)
  log_on_stays other None like none known =
      let again : CallState = record other { mode = AccountMode; keyed = []; account = None; failed = other.failed + 1 } in
      by_test Holds (nat_lt (other.failed + 1) TRIES) (message_turn again messages.NotKnown)
      (ending_turn other whys.Refused messages.CallRefused) (asking_stays other AccountMode None (other.failed + 1) like none refl)
      (over_stays other like)
  log_on_stays other (Some account) like none known =
      owing_stays other (wishes.LogOn account) like (known account refl, like.serial ∙ none)

  -- any entry
  entry_stays : (other : CallState) (entry : Entry) → IsFree call other → has_logged_on call.mode ≡ is_callers entry
      → Holds (entry_turn other view moment entry)
  entry_stays other (entries.Account account) like by =
      asking_stays other PasswordMode (Some account) other.failed like (no_serial call.serial (is.serial ∙ by)) refl
  entry_stays other (entries.Password password) like by =
      log_on_stays other (known_caller other.account view.account password) like (no_serial call.serial (is.serial ∙ by))
      (known_is other.account view.account password)
  entry_stays other (entries.Command command) like by = command_stays by other command like
  entry_stays other (entries.Field text) like by =
      let filled = take MAX_FIELDS (other.filled ++ text ∷ []) in
      asking_stays_on by other filled (other.present >>= λ shown. field_mode shown.frame (length filled)) like
      (logged_next other.present (length filled))
  entry_stays other entries.Send like by = sending_stays by other (item_to_send other moment) refl like
  entry_stays other entries.Keep like by = browsing_stays by other like
  entry_stays other (entries.Delete number) like by = removing_stays by other number other.account refl like

  module _ (free : wish_in call.phase ≡ None) where
    -- the call at which the byte is read
    reading_free : (leaves : Bool) → leaves_mode call.mode byte ≡ leaves → IsFree call (if leaves then browsing_call call else call)
    reading_free true left = record {
      serial = refl;
      lines = refl;
      account = refl;
      mode = sym (logged_left call.mode byte left);
      free = free;
    }
    reading_free false left = record { serial = refl; lines = refl; account = refl; mode = refl; free = free }

    reading_like : IsFree call (reading_call call byte)
    reading_like = reading_free (leaves_mode call.mode byte) refl

    -- with the byte, or an entry
    byte_stays : (entry : Option Entry) → IfSome entry (IsEntryOf call byte) → Holds (byte_turn call byte view moment entry)
    byte_stays None says =
        let read = reading_call call byte in
        let like = reading_like in
        free_stays (read_turn read byte view moment None).0
        (record { serial = like.serial; lines = like.lines; account = like.account; mode = like.mode; free = like.free })
    byte_stays (Some entry) says =
        let read = reading_call call byte in
        let like = reading_like in
        entry_stays (call_at_entry read) entry
        (record { serial = like.serial; lines = like.lines; account = like.account; mode = like.mode; free = like.free })
        (sym like.mode ∙ logged_by read.mode (keys_with read byte) entry says)

    listens_stays : (spent : Bool) (after : CallState) (step : Step) → Listens spent call byte view moment after step
        → Stays call (Keyed byte view moment) after
    listens_stays true after step goes = subst (Stays call (Keyed byte view moment)) (sym goes.after_is)
        (over_stays call (record { serial = refl; lines = refl; account = refl; mode = refl; free = free }))
    listens_stays false after step hears = subst (Stays call (Keyed byte view moment)) (sym hears.goes.after_is)
        (byte_stays hears.entry hears.says.found)

  -- nothing changes
  still_stays : Stays call (Keyed byte view moment) call
  still_stays = record { is = is; same = record { serial = refl; lines = refl; account = λ has. refl } }

  turns_stay : (phase : Phase) (after : CallState) (step : Step) → call.phase ≡ phase → IsTurnIn phase call byte view moment after step
      → Stays call (Keyed byte view moment) after
  turns_stay phases.Listening after step its turns = listens_stays (ap wish_in its) (is_spent call) after step turns
  turns_stay (phases.Owing wish) after step its goes = subst (Stays call (Keyed byte view moment)) (sym goes.after_is) still_stays
  turns_stay phases.Over after step its goes = subst (Stays call (Keyed byte view moment)) (sym goes.after_is) still_stays

-- ---- a reply

-- what an event makes of a call whose phase is this leaves its caller who he is
record StaysIn (call : CallState) (event : CallEvent) (phase : Phase) (after : CallState) : Type 0 where
  is : IsCallState after
  serial : after.serial ≡ serial_after event phase call.serial
  lines : after.lines ≡ lines_after event phase call.lines
  account : IsSome after.serial → after.account ≡ call.account

module _ (call : CallState) (is : IsCallState call) where
  -- the frame that was kept aside is shown, since its charge is stored
  charged_stays : (charge : Charge) → IsOwnCharge call charge
      → StaysIn call (Stored replies.Stored) (phases.Owing (wishes.Charge charge)) (charged_turn call call.aside).0
  charged_stays charge own =
      subst (λ (aside : Option ShownFrame).
      StaysIn call (Stored replies.Stored) (phases.Owing (wishes.Charge charge)) (charged_turn call aside).0)
      (sym own.aside.1) (record {
        is = record {
          serial = ap is_some own.serial ∙ sym (logged_at own.aside.0.frame);
          account = is.account;
          lines = λ none. let both : None ≡ Some charge.serial = sym none ∙ own.serial in absurd cc;
          owed = tt;
        };
        serial = refl;
        lines = refl;
        account = λ has. refl;
      })

  -- the caller is welcome, since his log-on is stored
  welcome_stays : (account serial : ℕ) → IsOwn call (wishes.LogOn account)
      → StaysIn call (Stored (replies.Serial serial)) (phases.Owing (wishes.LogOn account))
      (storing_turn call (phases.Owing (wishes.LogOn account)) (replies.Serial serial)).0
  welcome_stays account serial own = record {
    is = record {
      serial = refl;
      account = λ has. subst IsSome (sym own.0) refl;
      lines = λ none. let never : Some serial ≡ None = none in absurd cc;
      owed = tt;
    };
    serial = refl;
    lines = refl;
    account = λ has. refl;
  }

  -- a caller who is asked for a command again, since what was owed is stored
  done_stays : (event : CallEvent) (phase : Phase) → call.serial ≡ serial_after event phase call.serial
      → call.lines ≡ lines_after event phase call.lines → has_logged_on call.mode ≡ true
      → StaysIn call event phase (record (browsing_call call) { phase = phases.Listening })
  done_stays event phase serial lines on = record {
    is = record { serial = is.serial ∙ on; account = is.account; lines = is.lines; owed = tt };
    serial = serial;
    lines = lines;
    account = λ has. refl;
  }

  reply_stays : (phase : Phase) (reply : Paid) → IfSome (wish_in phase) (IsOwn call)
      → StaysIn call (Stored reply) phase (storing_turn call phase reply).0
  reply_stays phases.Listening (replies.Serial serial) own =
      record { is = is; serial = refl; lines = refl; account = λ has. refl }
  reply_stays phases.Listening replies.Stored own = record { is = is; serial = refl; lines = refl; account = λ has. refl }
  reply_stays (phases.Owing (wishes.LogOn account)) (replies.Serial serial) own = welcome_stays account serial own
  reply_stays (phases.Owing (wishes.LogOn account)) replies.Stored own =
      record { is = is; serial = refl; lines = refl; account = λ has. refl }
  reply_stays (phases.Owing (wishes.Charge charge)) (replies.Serial serial) own =
      record { is = is; serial = refl; lines = refl; account = λ has. refl }
  reply_stays (phases.Owing (wishes.Charge charge)) replies.Stored own = charged_stays charge own
  reply_stays (phases.Owing (wishes.Post item)) (replies.Serial serial) own =
      record { is = is; serial = refl; lines = refl; account = λ has. refl }
  reply_stays (phases.Owing (wishes.Post item)) replies.Stored own =
      done_stays (Stored replies.Stored) (phases.Owing (wishes.Post item)) refl refl (sym is.serial ∙ own.0)
  reply_stays (phases.Owing (wishes.Remove account number)) (replies.Serial serial) own =
      record { is = is; serial = refl; lines = refl; account = λ has. refl }
  reply_stays (phases.Owing (wishes.Remove account number)) replies.Stored own =
      done_stays (Stored replies.Stored) (phases.Owing (wishes.Remove account number)) refl refl (sym is.serial ∙ own.0)
  reply_stays phases.Over (replies.Serial serial) own = record { is = is; serial = refl; lines = refl; account = λ has. refl }
  reply_stays phases.Over replies.Stored own = record { is = is; serial = refl; lines = refl; account = λ has. refl }

  full_stays : (phase : Phase) → StaysIn call Refused phase (full_turn call phase).0
  full_stays phases.Listening = record { is = is; serial = refl; lines = refl; account = λ has. refl }
  full_stays (phases.Owing wish) = record {
    is = record { serial = is.serial; account = is.account; lines = is.lines; owed = tt };
    serial = refl;
    lines = refl;
    account = λ has. refl;
  }
  full_stays phases.Over = record { is = is; serial = refl; lines = refl; account = λ has. refl }

-- ---- any event

-- so that it is the caller of the call
stays_in : (call made after : CallState) (event : CallEvent) → StaysIn call event call.phase made → after ≡ made → Stays call event after
stays_in call made after event stays after_is = subst (Stays call event) (sym after_is) (record {
  is = stays.is;
  same = record { serial = stays.serial; lines = stays.lines; account = stays.account };
})

event_stays : (call after : CallState) (event : CallEvent) (step : Step) → IsCallState call → Happens call event after step
    → Stays call event after
event_stays call after (Keyed byte view moment) step is happens = turns_stay call is byte view moment call.phase after step refl happens
event_stays call after (Stored reply) step is happens =
    stays_in call _ after (Stored reply) (reply_stays call is call.phase reply is.owed) happens.after_is
event_stays call after Refused step is happens = stays_in call _ after Refused (full_stays call is call.phase) happens.after_is

pub call_lasts : (call after : CallState) (event : CallEvent) (step : Step) → IsCallState call → Happens call event after step
    → IsCallState after
call_lasts call after event step is happens = (event_stays call after event step is happens).is

pub same_caller : (call after : CallState) (event : CallEvent) (step : Step) → IsCallState call → Happens call event after step
    → IsSameCaller call event after
same_caller call after event step is happens = (event_stays call after event step is happens).same
