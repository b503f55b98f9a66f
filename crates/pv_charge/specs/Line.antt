-- A charge line, its spelling in bytes, and what is read as one.
use Rattle.std.specs.Prelude.{ℕ, ◌<◌, ◌≤◌, ◌^◌, List, ◌++◌}
use Rattle.std.specs.Int.{w16, w32, w64, to_be_bytes}
use Rattle.pv_fields.specs.Reading.{Parser, number_at, at_most, ◌⊗◌, map_at}
use Rattle.pv_page.specs.Names.{Name, IsAccount, IsName}
use Rattle.pv_page.specs.Spelling.{account_bytes, account_number_at, name_bytes, name_at}
use Rattle.pv_charge.specs.declared.line.TheConstants.{MAX_PRICE, LAST_MOMENT}

-- a charge line: the call, the line's number in it, who pays, the frame, its price in pence, and when
pub record Charge : Type 0 where
  pub serial : ℕ
  pub number : ℕ
  pub account : ℕ
  pub name : Name
  pub price : ℕ
  pub moment : ℕ

-- each part is within its range
pub record IsCharge (line : Charge) : Type 0 where
  pub serial : line.serial < 2 ^ 64
  pub number : line.number < 2 ^ 32
  pub account : IsAccount line.account
  pub name : IsName line.name
  pub price : line.price ≤ MAX_PRICE
  pub moment : line.moment ≤ LAST_MOMENT

-- its spelling: part by part, numbers in big-endian order
unfoldable pub charge_bytes : Charge → List ℕ
charge_bytes line =
    to_be_bytes w64 line.serial
    ++ to_be_bytes w32 line.number
    ++ account_bytes line.account
    ++ name_bytes line.name
    ++ to_be_bytes w16 line.price
    ++ to_be_bytes w32 line.moment

-- the charge line that bytes begin with
unfoldable pub charge_at : Parser Charge
charge_at =
    map_at (λ x. record { serial = x.0; number = x.1.0; account = x.1.1.0; name = x.1.1.1.0; price = x.1.1.1.1.0; moment = x.1.1.1.1.1 })
    (number_at w64
    ⊗ number_at w32
    ⊗ account_number_at
    ⊗ name_at
    ⊗ at_most MAX_PRICE (number_at w16)
    ⊗ at_most LAST_MOMENT (number_at w32))
