-- Worked examples, computed from the definitions: each constant at the last value that fits, and the next.
use Rattle.std.{proofs.Common.{◌≡◌, [], ◌∷◌, true, false, Ok, Err, lit≤, refl, arith}, specs.{Fmt.digits, Prelude.codes}}
use Rattle.pv_page.specs.declared.page_error.PageError.TheVariants.{Empty, TooLong, NotDigit, LeadingZero}
use Rattle.pv_page.specs.Names.{IsPage, IsAccount, IsLetter, account_text, covers, name_text, page_of_digits, space}

-- the last page has nine nines, and the last account ten; the letters are a to z
pub pages : IsPage 999999999 × ¬ IsPage 1000000000
pages = (lit≤ tt, λ is. omega (arith, is))

pub accounts : IsAccount 9999999999 × ¬ IsAccount 10000000000
accounts = (lit≤ tt, λ is. omega (arith, is))

pub letters : IsLetter 97 × ¬ IsLetter 96 × IsLetter 122 × ¬ IsLetter 123
letters = ((lit≤ tt, lit≤ tt), (λ is. omega (arith, is.0)), (lit≤ tt, lit≤ tt), (λ is. omega (arith, is.1)))

-- A page has one to nine digits, and page 0 is written by one zero.
-- Too long comes before a byte that is no digit, and that before a leading zero.
pub digits_of_pages : (page_of_digits (codes "999999999") ≡ Ok 999999999) × (page_of_digits (codes "0") ≡ Ok 0)
    × (page_of_digits (codes "1000000000") ≡ Err TooLong) × (page_of_digits [] ≡ Err Empty)
    × (page_of_digits (codes "00000000x0") ≡ Err TooLong) × (page_of_digits (codes "01x") ≡ Err (NotDigit 2))
    × (page_of_digits (codes "01") ≡ Err LeadingZero)
digits_of_pages = (refl, refl, refl, refl, refl, refl, refl)

-- accounts have ten digits; the first frame of page 12, and the last frame of all; words are separated by spaces
pub texts : (account_text 12 ≡ codes "0000000012") × (account_text 9999999999 ≡ codes "9999999999")
    × (name_text (record { page = 12; letter = 97 }) ≡ codes "12a")
    × (name_text (record { page = 999999999; letter = 122 }) ≡ codes "999999999z")
    × (space ∷ [] ≡ codes " ")
unfolding digits
texts = (refl, refl, refl, refl, refl)

-- a page covers itself and the pages whose digits begin with its own, and no other
pub covered : (covers 12 12 ≡ true) × (covers 12 1234 ≡ true) × (covers 0 0 ≡ true)
    × (covers 12 1 ≡ false) × (covers 12 13 ≡ false) × (covers 0 5 ≡ false)
unfolding digits
covered = (refl, refl, refl, refl, refl, refl)
