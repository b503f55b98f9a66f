-- The letters that wait for each account: at most 20, oldest first.
use Rattle.std.specs.Prelude.{◌≡◌, ℕ, ◌≤◌, ◌<◌, ◌^◌, ◌==◌, not, nat_lt, Bool, true, List, [], ◌∷◌, ◌++◌, length, filter, replicate, slice_index_or, if◌then◌else◌}
use Rattle.std.specs.List.{list_all, list_any, position_or_len}
use Rattle.pv_page.specs.Names.{IsAccount}
use Rattle.pv_charge.specs.declared.line.TheConstants.{LAST_MOMENT}
use Rattle.pv_post.specs.Item.{is_text_cell}
use Rattle.pv_post.specs.declared.letter.TheConstants.{MAX_WAITING}
use Rattle.pv_post.specs.declared.mail.TheConstants.{TEXT_CELLS}

-- a letter that waits: its number, from whom, when, and its text
pub record WaitingLetter : Type 0 where
  pub number : ℕ
  pub sender : ℕ
  pub moment : ℕ
  pub text : List ℕ

-- each part is within its range
pub record IsWaitingLetter (letter : WaitingLetter) : Type 0 where
  pub number : letter.number < 2 ^ 64
  pub sender : IsAccount letter.sender
  pub moment : letter.moment ≤ LAST_MOMENT
  pub size : length letter.text ≡ TEXT_CELLS
  pub text : list_all is_text_cell letter.text ≡ true

-- ---- the letters of one account

-- the letters after one more arrives: it goes last, or is dropped if as many wait as may
abbrev pub with_letter : List WaitingLetter → WaitingLetter → List WaitingLetter
with_letter letters letter = if nat_lt (length letters) MAX_WAITING then letters ++ letter ∷ [] else letters

-- a letter of this number waits
abbrev pub has_letter : List WaitingLetter → ℕ → Bool
has_letter letters number = list_any (λ letter. letter.number == number) letters

-- the letters without those of this number
abbrev pub without_letter : List WaitingLetter → ℕ → List WaitingLetter
without_letter letters number = filter (λ letter. not (letter.number == number)) letters

-- ---- the letters of all accounts

-- for how many accounts there is room, the accounts that have a box, and the boxes, each at its account's index
pub record Boxes : Type 0 where
  pub room : ℕ
  pub owners : List ℕ
  pub boxes : List (List WaitingLetter)

-- no account has a box
abbrev pub no_boxes : ℕ → Boxes
no_boxes room = record { room = room; owners = []; boxes = replicate room [] }

-- the letters that wait for an account: those of the box at its index. After the last index nothing waits.
abbrev pub letters_of : Boxes → ℕ → List WaitingLetter
letters_of mail account = slice_index_or mail.boxes (position_or_len (λ owner. account == owner) mail.owners) []

-- the account has a box
abbrev pub has_box : Boxes → ℕ → Bool
has_box mail account = list_any (λ owner. account == owner) mail.owners

-- the owners after one more is to have a box: they stay if he has one
abbrev pub with_owner : List ℕ → ℕ → List ℕ
with_owner owners to = if list_any (λ owner. to == owner) owners then owners else owners ++ to ∷ []
