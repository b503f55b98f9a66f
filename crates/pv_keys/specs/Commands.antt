-- The keys among a caller's bytes, what the keys of each command are, and how keys are cut into commands.
use Rattle.std.specs.Prelude.{◌≡◌, ◌≢◌, ◌⊎◌, ℕ, ◌≤◌, Bool, IsTrue, ◌||◌, ◌==◌, List, [], ◌∷◌, ◌++◌, codes, decimal, length, flat_map, if◌then◌else◌}
use Rattle.std.specs.Char.{is_ascii_digit}
use Rattle.std.specs.Int.{IsInRange}
use Rattle.pv_page.specs.Names.{IsPage}
use Rattle.pv_page.specs.declared.page_no.TheConstants.{PAGE_DIGITS}
use Rattle.pv_keys.specs.declared.command.Command.{Command}
use Rattle.pv_keys.specs.declared.command.Command.TheVariants.{Route, Next, Go, Back, Repeat, Fresh, Mail, End, Cancel, Slip}
use Rattle.pv_keys.specs.declared.command.TheConstants.{END_PAGE, MAIL_PAGE}

-- ---- keys

-- the key *
abbrev pub star : ℕ
star = 42

-- the key #
abbrev pub hash : ℕ
hash = 35

-- the other code of the key #
abbrev pub underline : ℕ
underline = 95

-- a digit, * or #
abbrev pub is_key : ℕ → Bool
is_key byte = is_ascii_digit byte || byte == star || byte == hash

-- the key of a byte, if it has one
abbrev pub key_of_byte : ℕ → List ℕ
key_of_byte byte = if is_key byte then byte ∷ [] else if byte == underline then hash ∷ [] else []

-- the keys among bytes
abbrev pub keys_of : List ℕ → List ℕ
keys_of bytes = flat_map key_of_byte bytes

-- ---- the keys of a command

-- what a digit stands for
abbrev pub IsDigit : ℕ → Type 0
IsDigit digit = digit ≤ 9

-- a digit that makes no command after *0
abbrev pub IsSlipDigit : ℕ → Type 0
IsSlipDigit digit = IsInRange 1 8 digit

-- * and a number that was begun: one to nine digits, of which the first is no 0 before others
abbrev pub number_keys : ℕ → List ℕ
number_keys page = star ∷ decimal page

-- a page that can be keyed
pub record IsKeyedPage (page : ℕ) : Type 0 where
  pub within : IsPage page
  pub no_end : page ≢ END_PAGE
  pub no_mail : page ≢ MAIL_PAGE

-- ** after a number that was begun
pub record IsNumberCancel (keys : List ℕ) : Type 0 where
  pub number : ℕ
  pub page : IsPage number
  pub text : keys ≡ number_keys number ++ codes "**"

-- a digit after *0 that makes no command
pub record IsZeroSlip (keys : List ℕ) : Type 0 where
  pub digit : ℕ
  pub slips : IsSlipDigit digit
  pub text : keys ≡ codes "*0" ++ decimal digit

-- a digit after nine
pub record IsTenthDigit (keys : List ℕ) : Type 0 where
  pub number : ℕ
  pub page : IsPage number
  pub full : length (decimal number) ≡ PAGE_DIGITS
  pub digit : ℕ
  pub is_digit : IsDigit digit
  pub text : keys ≡ number_keys number ++ decimal digit

-- another key than * after a number that was begun and *
pub record IsStarSlip (keys : List ℕ) : Type 0 where
  pub number : ℕ
  pub page : IsPage number
  pub key : ℕ
  pub is_key : IsTrue (is_key key)
  pub other : key ≢ star
  pub text : keys ≡ number_keys number ++ star ∷ key ∷ []

-- the keys are those of the command
abbrev pub IsSpelling : List ℕ → Command → Type 0
IsSpelling keys (Route digit) = IsDigit digit × (keys ≡ decimal digit)
IsSpelling keys Next = keys ≡ codes "#"
IsSpelling keys (Go page) = IsKeyedPage page × (keys ≡ number_keys page ++ codes "#")
IsSpelling keys Back = keys ≡ codes "*#"
IsSpelling keys Repeat = keys ≡ codes "*00"
IsSpelling keys Fresh = keys ≡ codes "*09"
IsSpelling keys Mail = keys ≡ number_keys MAIL_PAGE ++ codes "#"
IsSpelling keys End = keys ≡ number_keys END_PAGE ++ codes "#"
IsSpelling keys Cancel = (keys ≡ codes "**") ⊎ IsNumberCancel keys
IsSpelling keys Slip = IsZeroSlip keys ⊎ IsTenthDigit keys ⊎ IsStarSlip keys

-- ---- commands among keys

-- the keys begin with no whole command
abbrev pub HasNoCommand : List ℕ → Type 0
HasNoCommand keys = (first rest : List ℕ) (command : Command) → keys ≡ first ++ rest → IsSpelling first command → ⊥

-- the keys are those of the commands, one after another, and a rest that begins with no whole command
abbrev pub IsSplitInto : List ℕ → List Command → List ℕ → Type 0
IsSplitInto keys [] rest = (keys ≡ rest) × HasNoCommand rest
IsSplitInto keys (command ∷ commands) rest =
    (first : List ℕ) × (later : List ℕ) × (keys ≡ first ++ later) × IsSpelling first command × IsSplitInto later commands rest

-- the commands of a caller's bytes, and the keys after the last of them
abbrev pub AreCommandsOf : List ℕ → List Command → List ℕ → Type 0
AreCommandsOf bytes commands rest = IsSplitInto (keys_of bytes) commands rest
