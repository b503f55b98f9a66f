-- What a caller keys in each mode: the keys that count, and what they are once they are whole.
use Rattle.std.specs.Prelude.{◌≡◌, ℕ, ◌≤◌, Bool, true, false, IsTrue, not, ◌&&◌, ◌||◌, ◌==◌, List, [], ◌∷◌, ◌++◌, length, take, filter, Option, Some, None, if◌then◌else◌}
use Rattle.std.specs.Char.{is_ascii_digit}
use Rattle.std.specs.Int.{is_in_range}
use Rattle.std.specs.List.{list_all}
use Rattle.pv_page.specs.Names.{IsAccount, account_text}
use Rattle.pv_account.specs.declared.password.TheConstants.{PASSWORD_BYTES}
use Rattle.pv_frame.specs.declared.field.Field.{Field}
use Rattle.pv_frame.specs.declared.field.FieldKind.{FieldKind}
use Rattle.pv_frame.specs.declared.field.FieldKind.TheVariants.{Digits, Words}
use Rattle.pv_keys.specs.Commands.{IsSpelling, keys_of, star, hash, underline}
use Rattle.pv_post.specs.Item.{is_field_byte}
use Rattle.pv_session.specs.declared.entry.Entry.{Entry}
use Rattle.pv_session.specs.declared.entry.Entry.TheVariants as entries

-- what a caller is asked for: his account, his password or a command; what fills a field, and whether it must be full; whether
-- what he filled in is to be sent; or whether the letter of a number is to be deleted, which he is shown
pub data Mode : Type 0 where
  AccountMode : Mode
  PasswordMode : Mode
  BrowseMode : Mode
  FillMode : Field → Bool → Mode
  QuestionMode : Mode
  LetterMode : ℕ → Mode

-- ---- the keys that count

-- a character of a password: a printed one that is neither a space nor a key
abbrev pub is_password_character : ℕ → Bool
is_password_character byte = is_in_range 33 126 byte && not (byte == star || byte == hash || byte == underline)

-- a field takes this byte
abbrev pub takes_byte : FieldKind → ℕ → Bool
takes_byte Digits byte = is_ascii_digit byte
takes_byte Words byte = is_field_byte byte

-- a byte, if it counts
abbrev pub key_if : Bool → ℕ → List ℕ
key_if counts byte = if counts then byte ∷ [] else []

-- what of a byte counts in a field: the key # with either code, or what the field takes
abbrev pub field_keys : FieldKind → ℕ → List ℕ
field_keys kind byte = if byte == hash || byte == underline then hash ∷ [] else key_if (takes_byte kind byte) byte

-- the keys 1 and 2
abbrev pub key_1 : ℕ
key_1 = 49

abbrev pub key_2 : ℕ
key_2 = 50

-- what of a byte counts in a mode: it is the byte, or its key, or nothing
abbrev pub mode_keys : Mode → ℕ → List ℕ
mode_keys AccountMode byte = key_if (is_ascii_digit byte) byte
mode_keys PasswordMode byte = key_if (is_password_character byte) byte
mode_keys BrowseMode byte = keys_of (byte ∷ [])
mode_keys (FillMode field full) byte = field_keys field.kind byte
mode_keys QuestionMode byte = key_if (byte == key_1 || byte == key_2) byte
mode_keys (LetterMode number) byte = key_if (byte == key_1) byte

-- a byte leaves a mode, and is the first of a command: * in a field or at the question, and all but 1 at a letter
abbrev pub leaves_mode : Mode → ℕ → Bool
leaves_mode AccountMode byte = false
leaves_mode PasswordMode byte = false
leaves_mode BrowseMode byte = false
leaves_mode (FillMode field full) byte = byte == star
leaves_mode QuestionMode byte = byte == star
leaves_mode (LetterMode number) byte = not (byte == key_1)

-- ---- the entries

-- a field may be left with this text: it takes each byte and has a cell for each, and it is full if it must be
pub record FillsField (field : Field) (full : Bool) (text : List ℕ) : Type 0 where
  pub bytes : list_all (takes_byte field.kind) text ≡ true
  pub fits : length text ≤ field.length
  pub filled : IsTrue full → length text ≡ field.length

-- the keys are whole, and this is what they say
abbrev pub IsEntry : Mode → List ℕ → Entry → Type 0
IsEntry AccountMode keys (entries.Account account) = IsAccount account × (keys ≡ account_text account)
IsEntry PasswordMode keys (entries.Password password) = (length keys ≡ PASSWORD_BYTES) × (keys ≡ password)
IsEntry BrowseMode keys (entries.Command command) = IsSpelling keys command
IsEntry (FillMode field full) keys (entries.Field text) = FillsField field full text × (keys ≡ text ++ hash ∷ [])
IsEntry QuestionMode keys entries.Send = keys ≡ key_1 ∷ []
IsEntry QuestionMode keys entries.Keep = keys ≡ key_2 ∷ []
IsEntry (LetterMode number) keys (entries.Delete other) = (keys ≡ key_1 ∷ []) × (other ≡ number)
IsEntry _ _ _ = ⊥

-- the keys that are kept until they make an entry: in a field what it takes, as long as there is a cell for it
abbrev pub kept_keys : Mode → List ℕ → List ℕ
kept_keys (FillMode field full) keys = take field.length (filter (takes_byte field.kind) keys)
kept_keys _ keys = keys

-- no key is kept after an entry
abbrev pub keys_left : Mode → List ℕ → Option Entry → List ℕ
keys_left mode keys None = kept_keys mode keys
keys_left mode keys (Some entry) = []
