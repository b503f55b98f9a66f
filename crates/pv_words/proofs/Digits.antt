-- A number of one digit.
use Rattle.std.proofs.Common.{◌≡◌, ℕ, ◌+◌, ◌-◌, ◌≤◌, List, [], ◌∷◌, length, get_or, refl, sym, ap, ◌∙◌, arith}
use Rattle.std.proofs.lemmas.{Grind.common_steps, Fmt.{decimal_digit, decimal_injective}}
use Rattle.pv_words.specs.Numbers.{IsNumber}

-- a text of one byte is its first
alone : (text : List ℕ) → length text ≡ 1 → text ≡ get_or text 0 0 ∷ []
alone [] is = absurd (omega (arith, is))
alone (digit ∷ []) is = refl
alone (digit ∷ other ∷ text) is = absurd (omega (arith, is))

module _ (text : List ℕ) (is : length text ≡ 1) (from : 48 ≤ get_or text 0 0) (to : get_or text 0 0 ≤ 57) where
  -- a text that is a digit is the number of the digit
  pub digit_found : IsNumber (get_or text 0 0 - 48) text
  digit_found =
      let back : 48 + (get_or text 0 0 - 48) ≡ get_or text 0 0 = omega arith in
      let digit = decimal_digit (get_or text 0 0 - 48) (omega arith) ∙ ap (λ digit. digit ∷ []) back in
      (omega arith, alone text is ∙ sym digit)

  -- and no other number
  pub digit_only : (number : ℕ) → IsNumber number text → get_or text 0 0 - 48 ≡ number
  digit_only number is_number =
      decimal_injective (get_or text 0 0 - 48) number (omega arith) is_number.0 (sym digit_found.1 ∙ is_number.1)

-- what the number of a digit follows from
pub ruleset one_digit = (common_steps, digit_found, digit_only)
