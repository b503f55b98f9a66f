-- The numbers that an end gives go round.
use Rattle.std.proofs.Common.{◌≡◌, ℕ, zero, suc, ◌+◌, ◌-◌, ◌<◌, ◌≤◌, [], ◌∷◌, length, Contains, refl, arith, inl, inr}
use Rattle.std.proofs.lemmas.Bool.{cases_lt}
use Rattle.std.proofs.lemmas.Grind.{common_steps}
use Rattle.std.proofs.lemmas.List.Elements.{Contains-append_right}
use Rattle.pv_link.specs.Sending.{SendingEnd, number_due, numbers_to_give}

-- the end after it gave this number
abbrev after : SendingEnd → ℕ → SendingEnd
after end number = record end { next = number + 1 }

module _ (front : ℕ) where
  -- an end that has a number to give gives the one that is due, and goes on after it
  one_more : (times : ℕ) (end : SendingEnd) → end.acknowledged < front
      → numbers_to_give (suc times) end front ≡ number_due end front
      ∷ numbers_to_give times (after end (number_due end front)) front
  unfolding numbers_to_give
  one_more times end some = grind (arith, common_steps)

  -- it gives a number at each ask
  length-numbers_to_give : (times : ℕ) (end : SendingEnd) → end.acknowledged < front → length (numbers_to_give times end front) ≡ times
  unfolding numbers_to_give
  length-numbers_to_give zero end some = refl
  length-numbers_to_give (suc times) end some =
      let rest = length-numbers_to_give times (after end (number_due end front)) some in
      grind (arith, one_more times end some, rest)

  -- the number that is due is among those that it gives
  gives_this : (times : ℕ) (end : SendingEnd) (number : ℕ) → end.acknowledged < front → number_due end front ≡ number
      → Contains (numbers_to_give (suc times) end front) number
  gives_this times end number some this = rw (one_more times end some, this) (0, omega arith, refl)

  -- and so are those that it gives later
  gives_later : (times : ℕ) (end : SendingEnd) (number : ℕ) → end.acknowledged < front
      → Contains (numbers_to_give times (after end (number_due end front)) front) number
      → Contains (numbers_to_give (suc times) end front) number
  gives_later times end number some later =
      rw (one_more times end some) (Contains-append_right (number_due end front ∷ []) _ number later)

  -- a number from the next one on comes in as many asks as it is away
  comes : (times : ℕ) (end : SendingEnd) (number : ℕ) → end.acknowledged ≤ end.next → end.next ≤ number → number < front
      → number < end.next + times → Contains (numbers_to_give times end front) number
  comes zero end number from le below near = absurd (omega arith)
  comes (suc times) end number from le below near =
      let turn : number_due end front ≡ end.next = grind arith in
      elim (cases_lt end.next number) [
        | inl more ↦
            let rest = comes times (after end (number_due end front)) number (omega (arith, turn)) (omega (arith, turn)) below in
            gives_later times end number (omega arith) (rest (omega (arith, turn)))
        | inr here ↦ gives_this times end number (omega arith) (grind (arith, turn))
      ]

  -- an end whose next number is the first that is not acknowledged gives each
  starts : (times : ℕ) (end : SendingEnd) (number : ℕ) → end.acknowledged ≤ number → number < front
      → number_due end front ≡ end.acknowledged → number < end.acknowledged + 1 + times
      → Contains (numbers_to_give (suc times) end front) number
  starts times end number from below turn near = elim (cases_lt end.acknowledged number) [
    | inl more ↦
        let rest = comes times (after end (number_due end front)) number (omega (arith, turn)) (omega (arith, turn)) below in
        gives_later times end number (omega arith) (rest (omega (arith, turn)))
    | inr here ↦ gives_this times end number (omega arith) (omega (arith, turn))
  ]

  -- one before it comes after the end has begun again
  comes_again : (times : ℕ) (end : SendingEnd) (number : ℕ) → end.acknowledged ≤ number → number < end.next → end.next ≤ front
      → front + number < end.next + end.acknowledged + times → Contains (numbers_to_give times end front) number
  comes_again zero end number from le below near = absurd (omega arith)
  comes_again (suc times) end number from le below near = elim (cases_lt end.next front) [
    | inl inside ↦
        let turn : number_due end front ≡ end.next = grind arith in
        let rest = comes_again times (after end (number_due end front)) number from (omega (arith, turn)) (omega (arith, turn)) in
        gives_later times end number (omega arith) (rest (omega (arith, turn)))
    | inr over ↦
        let turn : number_due end front ≡ end.acknowledged = grind arith in
        starts times end number from (omega arith) turn (omega arith)
  ]

  -- in as many asks as there are numbers that are not acknowledged, each of them comes
  pub each_comes : (end : SendingEnd) (number : ℕ) → end.acknowledged ≤ number → number < front
      → Contains (numbers_to_give (front - end.acknowledged) end front) number
  each_comes end number from below =
      let more : front - end.acknowledged ≡ suc (front - end.acknowledged - 1) = omega arith in
      elim (cases_lt end.next end.acknowledged) [
        | inl before ↦ rw more (starts (front - end.acknowledged - 1) end number from below (grind arith) (omega arith))
        | inr le ↦ elim (cases_lt end.next front) [
          | inl inside ↦ elim (cases_lt number end.next) [
            | inl passed ↦ comes_again (front - end.acknowledged) end number from passed (omega arith) (omega arith)
            | inr ahead ↦ comes (front - end.acknowledged) end number le ahead below (omega arith)
          ]
          | inr over ↦ rw more (starts (front - end.acknowledged - 1) end number from below (grind arith) (omega arith))
        ]
      ]

  -- of as many asks each gives a number
  pub as_many : (end : SendingEnd) → length (numbers_to_give (front - end.acknowledged) end front) ≡ front - end.acknowledged
  unfolding numbers_to_give
  as_many end = elim (cases_lt end.acknowledged front) [
    | inl some ↦ length-numbers_to_give (front - end.acknowledged) end some
    | inr none ↦ let zero_asks : front - end.acknowledged ≡ 0 = omega arith in rw zero_asks refl
  ]
