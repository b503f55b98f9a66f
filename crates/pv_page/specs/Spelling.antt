-- How pages, accounts and names are spelled in bytes, and what is read as one.
use Rattle.std.specs.Prelude.{ℕ, List, [], ◌∷◌, ◌++◌}
use Rattle.std.specs.Int.{w32, w64, to_be_bytes}
use Rattle.pv_fields.specs.Reading.{Parser, byte_at, number_at, within, at_most, ◌⊗◌, map_at}
use Rattle.pv_page.specs.Names.{Name}
use Rattle.pv_page.specs.declared.page_no.TheConstants.{LAST_PAGE}
use Rattle.pv_page.specs.declared.account_no.TheConstants.{LAST_ACCOUNT}
use Rattle.pv_page.specs.declared.frame_name.TheConstants.{FIRST_LETTER, LAST_LETTER}

-- a page: its number in four bytes
abbrev pub page_bytes : ℕ → List ℕ
page_bytes page = to_be_bytes w32 page

-- the page that bytes begin with
abbrev pub page_at : Parser ℕ
page_at = at_most LAST_PAGE (number_at w32)

-- an account: its number in eight bytes
abbrev pub account_bytes : ℕ → List ℕ
account_bytes account = to_be_bytes w64 account

-- the account that bytes begin with
abbrev pub account_number_at : Parser ℕ
account_number_at = at_most LAST_ACCOUNT (number_at w64)

-- a name: its page, and then its letter
abbrev pub name_bytes : Name → List ℕ
name_bytes name = page_bytes name.page ++ name.letter ∷ []

-- the name that bytes begin with
unfoldable pub name_at : Parser Name
name_at = map_at (λ x. record { page = x.0; letter = x.1 }) (page_at ⊗ within FIRST_LETTER LAST_LETTER byte_at)
