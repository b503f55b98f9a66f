-- The decimal texts of pages and accounts, and the digits that are such a text.
use Rattle.std.proofs.Common.{◌≡◌, ℕ, zero, suc, ◌+◌, ◌-◌, ◌^◌, ◌<◌, ◌≤◌, ◌≢◌, List, [], ◌∷◌, ◌++◌, length, get_or, take, drop, All, replicate, not, None, decimal, refl, sym, ap, ◌∙◌, inl, inr, arith}
use Rattle.std.proofs.lemmas.{Bool.Decides.nat_tests, Grind.common_steps, List.Sums.{prefix_len_passes, prefix_len_is}}
use Rattle.std.proofs.lemmas.Bool.{cases_eq, cases_lt, le-ltb}
use Rattle.std.proofs.lemmas.List.{get_or_default, append-nil, take-append-drop, take-replicate, length-append, length-replicate}
use Rattle.std.proofs.lemmas.Str.Parse.{IsNumeralModel, numerals_by_value, tells_digits, tells_by_index, digit_at, digits_value_short}
use Rattle.std.proofs.lemmas.Fmt.{decimal_digit, decimal_nonempty, decimal_injective, first_decimal, length-decimal-le, digits_decimal, digits_value-decimal, decimal-digits_value, IsAscii-from_digits}
use Rattle.std.{proofs.lemmas.Str.IsUtf8-from_ascii, specs.{Char.{IsAsciiDigit, is_ascii_digit}, Int.IsInRange, List.position_or_len}}
use Rattle.std.specs.Str.Parse.{AllDigits, digits_value}
use Rattle.pv_fields.{proofs.CallerLemmas.{appends_then, slice_after}, specs.Refusals.first_of}
use Rattle.pv_page.specs.Names.{IsPage, IsAccount, account_text, first_not_digit, page_errors}

-- std's words for digits and their value
pub own : IsNumeralModel (AllDigits 10) (digits_value 10)
own = numerals_by_value (AllDigits 10) tells_digits

-- each byte of a text of digits is a digit 0 to 9
pub All-from_digits : (text : List ℕ) → AllDigits 10 text → All IsAsciiDigit text
All-from_digits text digits k d within =
    rw (get_or_default text k d 0 within) (digit_at text k digits within)

module _ (n : ℕ) (page : IsPage n) where
  -- a page's text has a digit
  pub page_nonempty : 0 < length (decimal n)
  page_nonempty = decimal_nonempty n (omega arith)

  -- it has at most nine of them
  pub length-page : length (decimal n) ≤ 9
  length-page = length-decimal-le 9 n (omega arith) (omega arith) (omega arith)

  -- each byte of it is a digit
  pub digits_of_page : AllDigits 10 (decimal n)
  digits_of_page = digits_decimal own n (omega arith)

  -- what the digits write is the page's number
  pub digits_value-page : digits_value 10 (decimal n) ≡ n
  digits_value-page = digits_value-decimal own n (omega arith)

  -- a page's text of several digits does not begin with a zero
  pub first_of_page : 1 < length (decimal n) → get_or (decimal n) 0 0 ≢ 48
  first_of_page several leading = grind (arith, common_steps, cases_lt, decimal_digit, first_decimal)

-- two pages with the same text are the same page
pub page_injective : (m n : ℕ) → IsPage m → IsPage n → decimal m ≡ decimal n → m ≡ n
page_injective m n m_page n_page = decimal_injective m n (omega arith) (omega arith)

module _ (text : List ℕ) (digits : AllDigits 10 text) (some : 0 < length text) (fits : length text ≤ 9) where
  -- what one to nine digits write is the number of a page
  pub page_within : IsPage (digits_value 10 text)
  page_within = omega (arith, digits_value_short own text 9 digits fits)

  -- they are that page's text, unless a zero comes before other digits
  pub decimal-digits : (get_or text 0 0 ≡ 48 → length text ≡ 1) → decimal (digits_value 10 text) ≡ text
  decimal-digits no_leading_zero =
      decimal-digits_value own text digits some no_leading_zero (omega (arith, page_within))

-- what was written before the end of ten zeros is an account's text
pub account_text-written : (n at : ℕ) (buffer : List ℕ) → at + length (decimal n) ≡ 10
    → drop at buffer ≡ decimal n ++ drop 10 (replicate 10 48)
    → take at buffer ≡ take at (replicate 10 48) → buffer ≡ account_text n
account_text-written n at buffer start written before =
    let zeros : take at (replicate 10 48) ≡ replicate (10 - length (decimal n)) 48 =
    take-replicate at 10 48 (omega arith) ∙ ap (λ k. replicate k 48) (omega arith) in
    sym (take-append-drop at buffer)
    ∙ ap (λ zeros. zeros ++ drop at buffer) (before ∙ zeros)
    ∙ ap (λ rest. replicate (10 - length (decimal n)) 48 ++ rest) (written ∙ append-nil (decimal n))

-- ---- texts of digits

-- a text is all digits if each of its bytes is one
by_index : IsNumeralModel (λ text. (i : ℕ) → i < length text → IsInRange 48 57 (get_or text i 0)) (digits_value 10)
by_index = numerals_by_value _ tells_by_index

-- no byte is found that is no digit: all are
pub digits_from_none : (text : List ℕ) → first_not_digit text ≡ None → AllDigits 10 text
digits_from_none text none = by_index.to text (λ i within.
    let all : length text ≤ position_or_len (λ byte. not (is_ascii_digit byte)) text = grind (arith, common_steps) in
    let passes = prefix_len_passes (λ byte. not (not (is_ascii_digit byte))) text i 0 (omega (arith, all)) in
    grind (arith, nat_tests))

-- all bytes are digits: none is found that is not
pub none_from_digits : (text : List ℕ) → AllDigits 10 text → first_not_digit text ≡ None
none_from_digits text digits =
    let all : position_or_len (λ byte. not (is_ascii_digit byte)) text ≡ length text =
    prefix_len_is (λ byte. not (not (is_ascii_digit byte))) text (length text) 0 (omega arith)
    (λ k within. let digit = by_index.from text digits k within in grind (arith, nat_tests))
    (λ more. absurd (omega arith)) in
    rw all (rw (le-ltb (length text) (length text) (omega arith)) refl)

-- ---- accounts

-- zeros before digits change neither that they are digits nor their value
zeros_before : (k : ℕ) (digits : List ℕ) → AllDigits 10 digits
    → AllDigits 10 (replicate k 48 ++ digits) × (digits_value 10 (replicate k 48 ++ digits) ≡ digits_value 10 digits)
zeros_before zero digits are = (are, refl)
zeros_before (suc k) digits are = let rest = zeros_before k digits are in ((omega arith, rest.0), rest.1)

-- digits are zeros and then the decimal text of their value
zeros_and_number : (text : List ℕ) → AllDigits 10 text → 0 < length text → digits_value 10 text < 2 ^ 64
    → (k : ℕ) × (text ≡ replicate k 48 ++ decimal (digits_value 10 text))
zeros_and_number [] digits some small = absurd (omega (arith, some))
zeros_and_number (c ∷ []) digits some small = (0, sym (decimal-digits_value own (c ∷ []) digits some (λ leading. refl) small))
zeros_and_number (c ∷ d ∷ text) digits some small =
    elim (cases_eq c 48) [
      | inl is_zero ↦
          let value : digits_value 10 (c ∷ d ∷ text) ≡ digits_value 10 (d ∷ text) = ap (λ c. digits_value 10 (c ∷ d ∷ text)) is_zero in
          let rest = zeros_and_number (d ∷ text) digits.1 (omega arith) (rw value at small) in
          (suc rest.0, rw value (ap (λ c. c ∷ d ∷ text) is_zero ∙ ap (λ rest. 48 ∷ rest) rest.1))
      | inr other ↦ (0, sym (decimal-digits_value own (c ∷ d ∷ text) digits some (λ leading. absurd (other leading)) small))
    ]

module _ (text : List ℕ) (digits : AllDigits 10 text) (ten : length text ≡ 10) where
  -- ten digits are the number of an account
  pub account_within : IsAccount (digits_value 10 text)
  account_within = omega (arith, digits_value_short own text 10 digits (omega arith))

  -- and its text
  pub account_text-digits : text ≡ account_text (digits_value 10 text)
  account_text-digits = grind (arith, common_steps, account_within, length-append, length-replicate, zeros_and_number)

module _ (n : ℕ) (account : IsAccount n) where
  -- an account's text has ten digits
  pub length-account_text : length (account_text n) ≡ 10
  length-account_text = grind (arith, common_steps, length-append, length-decimal-le, length-replicate)

  -- each of its bytes is a digit
  pub digits_of_account : AllDigits 10 (account_text n)
  digits_of_account = (zeros_before (10 - length (decimal n)) (decimal n) (digits_decimal own n (omega arith))).0

  -- what the digits write is the account's number
  pub digits_value-account : digits_value 10 (account_text n) ≡ n
  digits_value-account = grind (arith, common_steps, digits_decimal, digits_value-decimal, own, zeros_before)

-- ---- the errors of a page's digits

-- the text is one to nine digits, with no zero before others
pub record IsRead (text : List ℕ) : Type 0 where
  pub some : 0 < length text
  pub few : length text ≤ 9
  pub digits : AllDigits 10 text
  pub plain : get_or text 0 0 ≡ 48 → length text ≡ 1

-- so is a text without an error
pub is_read : (text : List ℕ) → first_of (page_errors text) ≡ None → IsRead text
is_read text none =
    let digits : first_not_digit text ≡ None = grind (arith, nat_tests) in
    record {
      some = grind (arith, nat_tests);
      few = grind (arith, nat_tests);
      digits = digits_from_none text digits;
      plain = λ first. grind (arith, nat_tests);
    }

-- a page's text has no error
pub page_without_error : (text : List ℕ) (n : ℕ) → IsPage n → text ≡ decimal n → first_of (page_errors text) ≡ None
page_without_error text n page is =
    let len : length text ≡ length (decimal n) = ap length is in
    let some = page_nonempty n page in
    let few = length-page n page in
    let digits = none_from_digits text (rw is (digits_of_page n page)) in
    let plain : 1 < length text → get_or text 0 0 ≢ 48 = rw is (first_of_page n page) in
    grind (arith, nat_tests)

-- what the code on pages follows from
pub ruleset pages = (common_steps, is_read, page_within, decimal-digits)

-- what the code on accounts follows from
pub ruleset accounts = (
  common_steps,
  length-decimal-le,
  account_within,
  account_text-digits,
  length-account_text,
  digits_of_account,
  digits_value-account,
  account_text-written,
)

-- digits are a text
pub ruleset ascii = (common_steps, IsAscii-from_digits, IsUtf8-from_ascii)

-- what the bytes of a name's text follow from
pub ruleset name_parts = (common_steps, appends_then, slice_after, length-page)
