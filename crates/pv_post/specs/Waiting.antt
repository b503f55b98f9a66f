-- The letters that wait for an account, as the places of an edit list bring them and removals take them out.
use Rattle.std.specs.Prelude.{ℕ, zero, suc, ◌==◌, ◌&&◌, not, Bool, List, [], filter, Option, Some, None}
use Rattle.std.specs.List.{list_any}
use Rattle.pv_post.specs.Boxes.{WaitingLetter, with_letter}
use Rattle.pv_post.specs.Item.{Message}
use Rattle.pv_post.specs.declared.removal.Removal.{Removal}

-- a letter under the number of its place
abbrev pub letter_of : ℕ → Message → WaitingLetter
letter_of number mail = record { number = number; sender = mail.sender; moment = mail.moment; text = mail.text }

-- the removal was stored at this place, and is of this letter of the account's
abbrev pub removes : ℕ → ℕ → WaitingLetter → Removal → Bool
removes account place letter removal = account == removal.account && place == removal.place && letter.number == removal.number

-- the letters of an account that are left by the removals stored at a place
abbrev pub letters_left : List Removal → ℕ → ℕ → List WaitingLetter → List WaitingLetter
letters_left removals account place letters = filter (λ letter. not (list_any (removes account place letter) removals)) letters

-- the letters, with the one that a place brings, if it brings one
abbrev pub letters_with_arrival : List WaitingLetter → Option WaitingLetter → List WaitingLetter
letters_with_arrival letters None = letters
letters_with_arrival letters (Some letter) = with_letter letters letter

-- The letters that wait for an account after this many places, each of which may bring him one: the twenty-first is dropped. A
-- removal takes its letter out before the record of its place comes, or after the last one.
abbrev pub waiting_letters : (ℕ → Option WaitingLetter) → List Removal → ℕ → ℕ → List WaitingLetter
waiting_letters arrivals removals account zero = []
waiting_letters arrivals removals account (suc place) =
    letters_left removals account (suc place) (letters_with_arrival (waiting_letters arrivals removals account place) (arrivals place))
