-- What a caller sends and is sent: what he filled in, and the screen of a letter.
use Rattle.std.specs.Prelude.{ℕ, ◌-◌, ◌&&◌, ◌==◌, List, [], ◌∷◌, ◌++◌, codes, length, take, slice_set, flat_map, Option, Some, None, option_map, if◌then◌else◌}
use Rattle.std.specs.Char.{is_ascii_digit}
use Rattle.std.specs.List.{list_all}
use Rattle.std.specs.Str.Parse.{digits_value}
use Rattle.pv_fields.specs.Reading.{◌>>=◌}
use Rattle.pv_cells.specs.declared.reading.TheConstants.{ROW_LENGTH}
use Rattle.pv_page.specs.Names.{Name, account_text}
use Rattle.pv_page.specs.declared.account_no.TheConstants.{ACCOUNT_DIGITS}
use Rattle.pv_frame.specs.declared.kind.Kind.{Kind}
use Rattle.pv_frame.specs.declared.kind.Kind.TheVariants as kinds
use Rattle.pv_frame.specs.declared.layout.TheConstants.{BODY_CELLS}
use Rattle.pv_post.specs.Boxes.{WaitingLetter}
use Rattle.pv_post.specs.Item.{Message}
use Rattle.pv_post.specs.declared.item.Item.{Item}
use Rattle.pv_post.specs.declared.item.Item.TheVariants as items
use Rattle.pv_post.specs.declared.mail.TheConstants.{TEXT_CELLS}
use Rattle.pv_screen.specs.Composing.{at_left, spaces, body_rows}
use Rattle.pv_screen.specs.declared.composing.TheConstants.{NAME_COLUMN}
use Rattle.pv_screen.specs.declared.grid.TheConstants.{ROWS, COLUMNS}
use Rattle.pv_screen.specs.declared.screen.Screen.{Screen}
use Rattle.pv_screen.specs.declared.screen.Screen.TheVariants.{Whole}
use Rattle.pv_session.specs.declared.letters.TheConstants.{LETTER_ROWS}
use Rattle.pv_session.specs.declared.message.Message.TheVariants.{KeyToDelete}
use Rattle.pv_session.specs.Messages.{message_row}

-- ---- what is sent

-- the account whose ten digits these are, if they are ten digits
abbrev pub account_of_digits : List ℕ → Option ℕ
account_of_digits text =
    if length text == ACCOUNT_DIGITS && list_all is_ascii_digit text then Some (digits_value 10 text) else None

-- the text of a letter: what was keyed into each row, six at most, at the row's left, and blank rows after them
abbrev pub letter_text : List (List ℕ) → List ℕ
letter_text rows = at_left TEXT_CELLS (flat_map (at_left ROW_LENGTH) (take LETTER_ROWS rows))

-- the letter that an account sends at a moment: the first field holds to whom, and the others the rows of its text
abbrev pub letter_from : ℕ → ℕ → List (List ℕ) → Option Message
letter_from sender moment [] = None
letter_from sender moment (to ∷ rows) = account_of_digits to >>= λ addressee. Some (record {
  sender = sender;
  to = addressee;
  moment = moment;
  text = letter_text rows;
})

-- what an account sends at a moment that filled in the frame of a name
abbrev pub item_of : Kind → ℕ → Name → ℕ → List (List ℕ) → Option Item
item_of kinds.Information account name moment filled = None
item_of kinds.Response account name moment [] = None
item_of kinds.Response account name moment (text ∷ others) =
    Some (items.Reply (record { account = account; name = name; moment = moment; fields = text ∷ others }))
item_of kinds.Mail account name moment filled = option_map items.Mail (letter_from account moment filled)

-- ---- the screen of a letter that waits

-- row 1 of a letter: who sent it
abbrev pub letter_heading : ℕ → List ℕ
letter_heading sender = at_left NAME_COLUMN (codes "MAIL") ++ at_left (COLUMNS - NAME_COLUMN) (account_text sender)

-- the body of a letter: its text from row 3 of the screen on
abbrev pub letter_body : List ℕ → List ℕ
letter_body text = spaces COLUMNS ++ text ++ spaces (BODY_CELLS - COLUMNS - TEXT_CELLS)

-- the sender in row 1, the text in rows 3 to 8, and in row 24 how the letter is deleted
abbrev pub letter_grid : WaitingLetter → List (List ℕ)
letter_grid letter =
    let rows = letter_heading letter.sender ∷ body_rows (letter_body letter.text) ++ spaces COLUMNS ∷ [] in
    slice_set rows (ROWS - 1) (message_row KeyToDelete)

abbrev pub screen_of_letter : WaitingLetter → Screen
screen_of_letter letter = Whole (letter_grid letter)
