-- The names of pages, accounts and frames, and the texts that they are read from and written as.
use Rattle.std.specs.Prelude.{◌≡◌, ℕ, ◌-◌, ◌≤◌, ◌++◌, ◌==◌, ◌&&◌, not, Bool, List, [], ◌∷◌, length, replicate, slice_index, nat_eq, nat_lt, decimal, Option, Result, option_map, position}
use Rattle.std.specs.Char.{is_ascii_digit}
use Rattle.std.specs.Int.{IsInRange}
use Rattle.std.specs.List.{starts_with}
use Rattle.std.specs.Str.Parse.{digits_value}
use Rattle.pv_fields.specs.Refusals.{first_of, some_if, unless}
use Rattle.pv_page.specs.declared.page_error.PageError.{PageError}
use Rattle.pv_page.specs.declared.page_error.PageError.TheVariants.{Empty, TooLong, NotDigit, LeadingZero}
use Rattle.pv_page.specs.declared.page_no.TheConstants.{LAST_PAGE, PAGE_DIGITS}
use Rattle.pv_page.specs.declared.account_no.TheConstants.{LAST_ACCOUNT, ACCOUNT_DIGITS}
use Rattle.pv_page.specs.declared.frame_name.TheConstants.{FIRST_LETTER, LAST_LETTER}

-- n is the number of a page
abbrev pub IsPage : ℕ → Type 0
IsPage n = n ≤ LAST_PAGE

-- n is the number of an account
abbrev pub IsAccount : ℕ → Type 0
IsAccount n = n ≤ LAST_ACCOUNT

-- c is a letter a to z
abbrev pub IsLetter : ℕ → Type 0
IsLetter c = IsInRange FIRST_LETTER LAST_LETTER c

-- a frame's name: the number of its page, and its letter
pub record Name : Type 0 where
  pub page : ℕ
  pub letter : ℕ

-- the page and the letter are within their ranges
pub record IsName (name : Name) : Type 0 where
  pub page : IsPage name.page
  pub letter : IsLetter name.letter

-- a name's text: the page in decimal, and then the letter
abbrev pub name_text : Name → List ℕ
name_text name = decimal name.page ++ name.letter ∷ []

-- the byte between the words of a line
abbrev pub space : ℕ
space = 32

-- the digit 0
abbrev pub zero_digit : ℕ
zero_digit = 48

-- an account's text: its number in ten digits, with zeros before it
abbrev pub account_text : ℕ → List ℕ
account_text n = replicate (ACCOUNT_DIGITS - length (decimal n)) zero_digit ++ decimal n

-- a root covers the pages whose digits begin with its own
abbrev pub Covers : ℕ → ℕ → Type 0
Covers root page = (more : List ℕ) × (decimal page ≡ decimal root ++ more)

-- whether a root covers a page
abbrev pub covers : ℕ → ℕ → Bool
covers root page = starts_with nat_eq (decimal page) (decimal root)

-- the index of the first byte that is no digit
abbrev pub first_not_digit : List ℕ → Option ℕ
first_not_digit text = position (λ byte. not (is_ascii_digit byte)) text

-- a zero comes before other digits
abbrev pub has_leading_zero : List ℕ → Bool
has_leading_zero text = nat_lt 1 (length text) && slice_index text 0 == zero_digit

-- the reasons why a text is no page's digits, in the order of their refusal
abbrev pub page_errors : List ℕ → List (Option PageError)
page_errors text =
    some_if (length text == 0) Empty
    ∷ some_if (nat_lt PAGE_DIGITS (length text)) TooLong
    ∷ option_map NotDigit (first_not_digit text)
    ∷ some_if (has_leading_zero text) LeadingZero
    ∷ []

-- the page that digits write, or the first error that applies
abbrev pub page_of_digits : List ℕ → Result ℕ PageError
page_of_digits text = unless (first_of (page_errors text)) (digits_value 10 text)
