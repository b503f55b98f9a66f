-- The limits of a charge line, and a line's spelling, computed from the definitions.
use Rattle.std.proofs.Common.{◌≡◌, ◌∷◌, [], refl, length}
use Rattle.pv_charge.specs.Line.{Charge, charge_bytes}
use Rattle.pv_charge.specs.declared.line.TheConstants.{MAX_PRICE, LAST_MOMENT, LINE_BYTES}
use Rattle.pv_charge.specs.declared.bill.TheConstants.{MAX_BILLED_LINES, MAX_BILLED_PENCE}

-- a frame costs at most 99 pence
pub max_price : MAX_PRICE ≡ 99
max_price = refl

-- the last second of the year 2099
pub last_moment : LAST_MOMENT ≡ 4102444799
last_moment = refl

-- a bill's counts end with their types
pub max_billed_lines : MAX_BILLED_LINES ≡ 4294967295
max_billed_lines = refl

pub max_billed_pence : MAX_BILLED_PENCE ≡ 9223372036854775808
max_billed_pence = refl

abbrev pub some_line : Charge
some_line = record { serial = 7; number = 9; account = 9999999999; name = record { page = 5; letter = 99 }; price = 99; moment = 1 }

-- a line each part of which differs from its neighbours
pub spelling-of_a_line : charge_bytes some_line
    ≡ 0 ∷ 0 ∷ 0 ∷ 0 ∷ 0 ∷ 0 ∷ 0 ∷ 7 ∷ 0 ∷ 0 ∷ 0 ∷ 9 ∷ 0 ∷ 0 ∷ 0 ∷ 2 ∷ 84 ∷ 11 ∷ 227 ∷ 255
    ∷ 0 ∷ 0 ∷ 0 ∷ 5 ∷ 99 ∷ 0 ∷ 99 ∷ 0 ∷ 0 ∷ 0 ∷ 1 ∷ []
unfolding charge_bytes
spelling-of_a_line = refl

-- it has as many bytes as the constant says
pub length-of_a_line : length (charge_bytes some_line) ≡ LINE_BYTES
unfolding charge_bytes
length-of_a_line = refl
