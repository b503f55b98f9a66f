-- A key changes no serial of a call.
use Rattle.std.proofs.Common.{◌≡◌, ℕ, ◌+◌, Bool, true, false, cond, ltb, List, [], ◌∷◌, ◌++◌, take, Option, Some, None, refl}
use Rattle.std.specs.Prelude.{◌==◌}
use Rattle.pv_page.specs.Names.{Name}
use Rattle.pv_page.specs.declared.frame_name.TheConstants.{LAST_LETTER}
use Rattle.pv_charge.specs.Line.{Charge}
use Rattle.pv_frame.specs.Content.{Content}
use Rattle.pv_keys.specs.declared.command.Command.{Command}
use Rattle.pv_keys.specs.declared.command.Command.TheVariants as commands
use Rattle.pv_edits.specs.Sight.{View}
use Rattle.pv_post.specs.Boxes.{WaitingLetter}
use Rattle.pv_post.specs.declared.fields.TheConstants.{MAX_FIELDS}
use Rattle.pv_post.specs.declared.item.Item.{Item}
use Rattle.pv_session.specs.declared.entry.Entry.{Entry}
use Rattle.pv_session.specs.declared.entry.Entry.TheVariants as entries
use Rattle.pv_session.specs.declared.message.Message.TheVariants.{PageNotAvailable}
use Rattle.pv_session.specs.declared.seat.TheConstants.{TRIES}
use Rattle.pv_session.specs.declared.step.Phase.{Phase}
use Rattle.pv_session.specs.declared.step.Phase.TheVariants.{Listening, Owing, Over}
use Rattle.pv_session.specs.declared.step.Step.{Step}
use Rattle.pv_session.specs.Charging.{charge_of}
use Rattle.pv_session.specs.Entries.{Mode, leaves_mode}
use Rattle.pv_session.specs.Fetching.{message_turn, showing_turn, charging_turn, found_turn, fetch_turn, names_with, visit_turn, route_turn, next_turn, back_turn, repeat_turn, fresh_turn, letter_turn, command_turn}
use Rattle.pv_session.specs.Filling.{browsing_call, asking_turn, field_turn, item_to_send, sending_turn, removing_turn}
use Rattle.pv_session.specs.Shown.{ShownFrame, first_frame, route_of_digit}
use Rattle.pv_session.specs.State.{CallState}
use Rattle.pv_session.specs.Turns.{is_spent, known_caller, log_on_turn, entry_turn, call_at_entry, read_turn, byte_turn}
use Rattle.pv_network.specs.Call.{key_turn, key_turn_in}

-- a turn leaves the serial as it was
abbrev Keeps : CallState → CallState × Step → Type 0
Keeps seat turn = turn.0.serial ≡ seat.serial

-- a turn by a test
by_test : (seat : CallState) (test : Bool) (one other : CallState × Step) → Keeps seat one → Keeps seat other
    → Keeps seat (cond test one other)
by_test seat true one other first second = first
by_test seat false one other first second = second

charging_keeps : (seat : CallState) (shown : ShownFrame) (charge : Option Charge) → Keeps seat (charging_turn seat shown charge)
charging_keeps seat shown None = refl
charging_keeps seat shown (Some charge) = refl

found_keeps : (seat : CallState) (moment : ℕ) (shown : ShownFrame) → Keeps seat (found_turn seat moment shown)
found_keeps seat moment shown =
    by_test seat (shown.frame.price == 0) (showing_turn seat shown) _ refl
    (charging_keeps seat shown (charge_of seat shown.name shown.frame.price moment))

fetch_keeps : (seat : CallState) (moment : ℕ) (name : Name) (frame : Option Content) → Keeps seat (fetch_turn seat moment name frame)
fetch_keeps seat moment name None = refl
fetch_keeps seat moment name (Some frame) = found_keeps seat moment (record { name = name; frame = frame })

visit_keeps : (seat : CallState) (moment : ℕ) (name : Name) (frame : Option Content) → Keeps seat (visit_turn seat moment name frame)
visit_keeps seat moment name None = refl
visit_keeps seat moment name (Some frame) =
    found_keeps (record seat { earlier = names_with seat.present seat.earlier }) moment (record { name = name; frame = frame })

route_keeps : (seat : CallState) (view : View) (moment : ℕ) (page : Option ℕ) → Keeps seat (route_turn seat view moment page)
route_keeps seat view moment None = refl
route_keeps seat view moment (Some page) = visit_keeps seat moment (first_frame page) (view.pages (first_frame page))

next_keeps : (seat : CallState) (view : View) (moment : ℕ) (present : Option ShownFrame) → Keeps seat (next_turn seat view moment present)
next_keeps seat view moment None = visit_keeps seat moment (first_frame 0) (view.pages (first_frame 0))
next_keeps seat view moment (Some present) =
    let next : Name = record present.name { letter = present.name.letter + 1 } in
    by_test seat (present.name.letter == LAST_LETTER) (message_turn seat PageNotAvailable) (visit_turn seat moment next (view.pages next))
    refl (visit_keeps seat moment next (view.pages next))

back_keeps : (seat : CallState) (view : View) (moment : ℕ) (earlier : List Name) → Keeps seat (back_turn seat view moment earlier)
back_keeps seat view moment [] = refl
back_keeps seat view moment (name ∷ earlier) = fetch_keeps (record seat { earlier = earlier }) moment name (view.pages name)

repeat_keeps : (seat : CallState) (present : Option ShownFrame) → Keeps seat (repeat_turn seat present)
repeat_keeps seat None = refl
repeat_keeps seat (Some present) = refl

fresh_keeps : (seat : CallState) (view : View) (moment : ℕ) (present : Option ShownFrame) → Keeps seat (fresh_turn seat view moment present)
fresh_keeps seat view moment None = refl
fresh_keeps seat view moment (Some present) = fetch_keeps seat moment present.name (view.pages present.name)

letter_keeps : (seat : CallState) (letter : Option WaitingLetter) → Keeps seat (letter_turn seat letter)
letter_keeps seat None = refl
letter_keeps seat (Some letter) = refl

command_keeps : (seat : CallState) (view : View) (moment : ℕ) (command : Command) → Keeps seat (command_turn seat view moment command)
command_keeps seat view moment (commands.Route digit) = route_keeps seat view moment (route_of_digit seat.present digit)
command_keeps seat view moment commands.Next = next_keeps seat view moment seat.present
command_keeps seat view moment (commands.Go page) = visit_keeps seat moment (first_frame page) (view.pages (first_frame page))
command_keeps seat view moment commands.Back = back_keeps seat view moment seat.earlier
command_keeps seat view moment commands.Repeat = repeat_keeps seat seat.present
command_keeps seat view moment commands.Fresh = fresh_keeps seat view moment seat.present
command_keeps seat view moment commands.Mail = letter_keeps seat view.letter
command_keeps seat view moment commands.End = refl
command_keeps seat view moment commands.Cancel = refl
command_keeps seat view moment commands.Slip = refl

log_on_keeps : (seat : CallState) (caller : Option ℕ) → Keeps seat (log_on_turn seat caller)
log_on_keeps seat None = by_test seat (ltb (seat.failed + 1) TRIES) _ _ refl refl
log_on_keeps seat (Some account) = refl

asking_keeps : (seat : CallState) (mode : Option Mode) → Keeps seat (asking_turn seat mode)
asking_keeps seat None = refl
asking_keeps seat (Some mode) = refl

field_keeps : (seat : CallState) (text : List ℕ) → Keeps seat (field_turn seat text)
field_keeps seat text = asking_keeps (record seat { filled = take MAX_FIELDS (seat.filled ++ text ∷ []) }) _

sending_keeps : (seat : CallState) (item : Option Item) → Keeps seat (sending_turn seat item)
sending_keeps seat None = refl
sending_keeps seat (Some item) = refl

removing_keeps : (seat : CallState) (number : ℕ) (account : Option ℕ) → Keeps seat (removing_turn seat number account)
removing_keeps seat number None = refl
removing_keeps seat number (Some account) = refl

entry_keeps : (seat : CallState) (view : View) (moment : ℕ) (entry : Entry) → Keeps seat (entry_turn seat view moment entry)
entry_keeps seat view moment (entries.Account account) = refl
entry_keeps seat view moment (entries.Password password) = log_on_keeps seat (known_caller seat.account view.account password)
entry_keeps seat view moment (entries.Command command) = command_keeps seat view moment command
entry_keeps seat view moment (entries.Field text) = field_keeps seat text
entry_keeps seat view moment entries.Send = sending_keeps seat (item_to_send seat moment)
entry_keeps seat view moment entries.Keep = refl
entry_keeps seat view moment (entries.Delete number) = removing_keeps seat number seat.account

read_keeps : (seat : CallState) (byte : ℕ) (view : View) (moment : ℕ) (entry : Option Entry)
    → Keeps seat (read_turn seat byte view moment entry)
read_keeps seat byte view moment None = refl
read_keeps seat byte view moment (Some entry) = entry_keeps (call_at_entry seat) view moment entry

byte_keeps : (seat : CallState) (byte : ℕ) (view : View) (moment : ℕ) (entry : Option Entry)
    → Keeps seat (byte_turn seat byte view moment entry)
byte_keeps seat byte view moment entry = by (leaves_mode seat.mode byte)
  where
    by : (leaves : Bool) → Keeps seat (read_turn (cond leaves (browsing_call seat) seat) byte view moment entry)
    by true = read_keeps (browsing_call seat) byte view moment entry
    by false = read_keeps seat byte view moment entry

turn_keeps : (phase : Phase) (seat : CallState) (byte : ℕ) (view : View) (moment : ℕ) (entry : Option Entry)
    → Keeps seat (key_turn_in phase seat byte view moment entry)
turn_keeps Listening seat byte view moment entry =
    by_test seat (is_spent seat) _ (byte_turn seat byte view moment entry) refl (byte_keeps seat byte view moment entry)
turn_keeps (Owing wish) seat byte view moment entry = refl
turn_keeps Over seat byte view moment entry = refl

-- by cases on the key, its entry and the entry's command
pub key_keeps : (seat : CallState) (byte : ℕ) (view : View) (moment : ℕ) (entry : Option Entry)
    → (key_turn seat byte view moment entry).0.serial ≡ seat.serial
key_keeps seat byte view moment entry = turn_keeps seat.phase seat byte view moment entry
