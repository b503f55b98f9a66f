-- Digits that are gathered: they stay digits, and ten of them are an account's.
use Rattle.std.proofs.Common.{◌≡◌, ℕ, Bool, true, false, List, [], ◌∷◌, ◌++◌, length, Option, Some, IsNone, refl, subst, sym, ap, ◌∙◌, arith}
use Rattle.std.proofs.lemmas.Bool.{and_parts}
use Rattle.std.proofs.lemmas.Bool.Decides.{nat_tests}
use Rattle.std.proofs.lemmas.List.{append-nil}
use Rattle.std.proofs.lemmas.Str.{digit_value_digit}
use Rattle.std.specs.Char.{is_ascii_digit}
use Rattle.std.specs.List.{list_all}
use Rattle.std.specs.Prelude.{◌&&◌, ◌==◌, None, if◌then◌else◌}
use Rattle.std.specs.Int.{IsInRange}
use Rattle.std.specs.Str.Parse.{AllDigits, digits_value}
use Rattle.pv_page.specs.Names.{IsAccount, account_text}
use Rattle.pv_page.proofs.CallerLemmas.{account_within, account_text-digits}
use Rattle.pv_session.specs.Entries.{key_if}
use Rattle.pv_session.specs.Letters.{account_of_digits}

-- one digit more
AllDigits-push : (digits : List ℕ) (digit : ℕ) → AllDigits 10 digits → IsInRange 48 57 digit → AllDigits 10 (digits ++ digit ∷ [])
AllDigits-push [] digit are is = (omega (arith, is, digit_value_digit digit is), tt)
AllDigits-push (first ∷ digits) digit are is = (are.0, AllDigits-push digits digit are.1 is)

-- a byte that counts is a digit, and another adds nothing
pub AllDigits-more : (digits : List ℕ) (byte : ℕ) (counts : Bool) → is_ascii_digit byte ≡ counts → AllDigits 10 digits
    → AllDigits 10 (digits ++ key_if counts byte)
AllDigits-more digits byte true is are = AllDigits-push digits byte are (grind (arith, nat_tests))
AllDigits-more digits byte false is are = subst (AllDigits 10) (sym (append-nil digits)) are

-- ten digits are an account's text, so that one answer comes of them
pub ten_digits : (digits : List ℕ) (answer : Option ℕ) → AllDigits 10 digits → length digits ≡ 10
    → ((n : ℕ) → IsAccount n → digits ≡ account_text n → answer ≡ Some n) → IsNone answer → ⊥
ten_digits digits answer are ten only none =
    let some = only (digits_value 10 digits) (account_within digits are ten) (account_text-digits digits are ten) in
    let impossible = subst (λ (o : Option ℕ). IsNone o) some none in
    absurd cc

-- bytes that are digits each
digits_of_all : (text : List ℕ) → list_all is_ascii_digit text ≡ true → AllDigits 10 text
digits_of_all [] all = tt
digits_of_all (byte ∷ text) all =
    let parts = and_parts (is_ascii_digit byte) (list_all is_ascii_digit text) all in
    let digit : IsInRange 48 57 byte = in_range byte (is_ascii_digit byte) refl parts.0 in
    (omega (arith, digit, digit_value_digit byte digit), digits_of_all text parts.1)
  where
    in_range : (byte : ℕ) (is : Bool) → is_ascii_digit byte ≡ is → is ≡ true → IsInRange 48 57 byte
    in_range byte true same holds = grind (arith, nat_tests)
    in_range byte false same holds = absurd cc

-- so what comes of ten of them is the account that they write
pub account_of_ten : (text : List ℕ) (answer : Option ℕ) → length text ≡ 10 → list_all is_ascii_digit text ≡ true
    → ((n : ℕ) → IsAccount n → text ≡ account_text n → answer ≡ Some n) → answer ≡ account_of_digits text
account_of_ten text answer ten all only =
    let digits = digits_of_all text all in
    let number = digits_value 10 text in
    let test : (length text == 10 && list_all is_ascii_digit text) ≡ true =
    ap (λ n. n == 10 && list_all is_ascii_digit text) ten ∙ ap (λ (b : Bool). true && b) all in
    only number (account_within text digits ten) (account_text-digits text digits ten)
    ∙ sym (ap (λ (b : Bool). if b then Some number else None) test)
