-- Lists of numbers that rise have no number twice, and a sorted list that does not rise has one twice.
use Rattle.std.proofs.Common.{◌≡◌, ◌⊎◌, inl, inr, ℕ, zero, suc, ◌+◌, ◌<◌, ◌≤◌, Bool, true, false, ltb, eqb, cond, ◌&&◌, List, [], ◌∷◌, length, get_or, take, drop, refl, sym, ap, subst, ◌∙◌, arith}
use Rattle.std.specs.List.{AllByRecursion}
use Rattle.std.specs.List.Sorted.{IsPermutation, IsNonDecreasing}
use Rattle.std.proofs.lemmas.Bool.{ltb-true, ltb-false, ne_eqb, eq-eqb, eqb-true, and_parts}
use Rattle.std.proofs.lemmas.List.{drop_more}
use Rattle.std.proofs.lemmas.List.Sorted.{sum_by-IsPermutation}
use Rattle.std.proofs.lemmas.List.Sums.{sum_by-cons}
use Rattle.pv_account.specs.Groups.{rises, occurrences, HasTwoEqual}

-- a test holds, or it fails
test_is : (test : Bool) → (test ≡ true) ⊎ (test ≡ false)
test_is true = inl refl
test_is false = inr refl

-- one step of the test
pub rises-drop : (last i : ℕ) (numbers : List ℕ) (number : ℕ) → i < length numbers → number ≡ get_or numbers i number
    → rises last (drop i numbers) ≡ (ltb last number && rises number (drop (i + 1) numbers))
rises-drop last i numbers number within is =
    ap (rises last) (drop_more numbers i number within)
    ∙ ap (λ (x : ℕ). ltb last x && rises x (drop (i + 1) numbers)) (sym is)

-- one number more is counted if it is the same
occurrences-cons : (number x : ℕ) (xs : List ℕ) → occurrences number (x ∷ xs) ≡ cond (eqb x number) 1 0 + occurrences number xs
occurrences-cons number x xs = sum_by-cons (λ other. cond (eqb other number) 1 0) x xs

occurrences-same : (number x : ℕ) (xs : List ℕ) → eqb x number ≡ true → occurrences number (x ∷ xs) ≡ 1 + occurrences number xs
occurrences-same number x xs is = occurrences-cons number x xs ∙ ap (λ b. cond b 1 0 + occurrences number xs) is

occurrences-other : (number x : ℕ) (xs : List ℕ) → eqb x number ≡ false → occurrences number (x ∷ xs) ≡ 0 + occurrences number xs
occurrences-other number x xs is = occurrences-cons number x xs ∙ ap (λ b. cond b 1 0 + occurrences number xs) is

-- a number that is not above the one before a rising list is not in the list
occurrences-low : (last number : ℕ) (numbers : List ℕ) → rises last numbers ≡ true → number ≤ last → occurrences number numbers ≡ 0
occurrences-low last number [] up low = refl
occurrences-low last number (x ∷ xs) up low =
    let parts = and_parts (ltb last x) (rises x xs) up in
    let above : last < x = ltb-true last x parts.0 in
    let other : eqb x number ≡ false = ne_eqb x number (λ same. omega (arith, same, above)) in
    omega (arith, occurrences-other number x xs other, occurrences-low x number xs parts.1 (omega arith))

-- a rising list has no number twice
pub occurrences-rises : (last number : ℕ) (numbers : List ℕ) → rises last numbers ≡ true → occurrences number numbers ≤ 1
occurrences-rises last number [] up = omega arith
occurrences-rises last number (x ∷ xs) up =
    let parts = and_parts (ltb last x) (rises x xs) up in
    elim (test_is (eqb x number)) [
      | inl same ↦ omega (
        arith,
        occurrences-same number x xs same,
        occurrences-low x number xs parts.1 (omega (arith, eqb-true x number same)),
      )
      | inr other ↦ omega (arith, occurrences-other number x xs other, occurrences-rises x number xs parts.1)
    ]

-- each number is at least the one before it, and the first at least this one
abbrev pub Ascends : ℕ → List ℕ → Type 0
Ascends last [] = Unit {0}
Ascends last (x ∷ xs) = (last ≤ x) × Ascends x xs

-- numbers ascend if each is at least the one at the index before it
ascends : (last : ℕ) (numbers : List ℕ) → ((i : ℕ) → i < length numbers → get_or (last ∷ numbers) i 0 ≤ get_or numbers i 0)
    → Ascends last numbers
ascends last [] each = tt
ascends last (x ∷ xs) each = (each 0 (omega arith), ascends x xs (λ i within. each (suc i) (omega arith)))

-- a sorted list ascends from 0
pub Ascends-sorted : (numbers : List ℕ) → IsNonDecreasing numbers → Ascends 0 numbers
Ascends-sorted numbers sorted = ascends 0 numbers from_zero
  where
    from_zero : (i : ℕ) → i < length numbers → get_or (0 ∷ numbers) i 0 ≤ get_or numbers i 0
    from_zero zero within = omega arith
    from_zero (suc i) within = sorted i (suc i) 0 (omega arith) within

-- a list that ascends and does not rise has two equal numbers, counting the one before it
equal_in : (last : ℕ) (numbers : List ℕ) → Ascends last numbers → rises last numbers ≡ false → HasTwoEqual (last ∷ numbers)
equal_in last [] up fails = absurd cc
equal_in last (x ∷ xs) up fails =
    elim (test_is (ltb last x)) [
      | inl above ↦
          let rest : rises x xs ≡ false = rw above at fails in
          let more = equal_in x xs up.1 rest in
          (more.0, omega (arith, occurrences-cons more.0 last (x ∷ xs), more.1))
      | inr not_above ↦
          let same : x ≡ last = omega (arith, ltb-false last x not_above, up.0) in (
            last,
            omega (
              arith,
              occurrences-same last last (x ∷ xs) (eq-eqb last last refl),
              occurrences-same last x xs (eq-eqb x last same),
            ),
          )
    ]

-- a sorted list that does not rise from 0 has a 0 or two equal numbers
pub zero_or_equal : (numbers : List ℕ) → IsNonDecreasing numbers → rises 0 numbers ≡ false
    → (0 < occurrences 0 numbers) ⊎ HasTwoEqual numbers
zero_or_equal numbers sorted fails =
    let found = equal_in 0 numbers (Ascends-sorted numbers sorted) fails in
    elim (test_is (eqb 0 found.0)) [
      | inl same ↦
          let zeros : 0 < occurrences found.0 numbers = omega (arith, occurrences-same found.0 0 numbers same, found.1) in
          inl (subst (λ number. 0 < occurrences number numbers) (sym (eqb-true 0 found.0 same)) zeros)
      | inr other ↦ inr (found.0, omega (arith, occurrences-other found.0 0 numbers other, found.1))
    ]

module _ (list sorted : List ℕ) (moved : IsPermutation list sorted) where
  -- sorting changes no count
  occurrences-sorted : (number : ℕ) → occurrences number sorted ≡ occurrences number list
  occurrences-sorted number = sum_by-IsPermutation (λ other. cond (eqb other number) 1 0) list sorted moved

  -- a list whose numbers do not rise when sorted has a 0 or two equal numbers
  pub refused : IsNonDecreasing sorted → rises 0 sorted ≡ false → (0 < occurrences 0 list) ⊎ HasTwoEqual list
  refused ascending fails =
      elim (zero_or_equal sorted ascending fails) [
        | inl zeros ↦ inl (omega (arith, occurrences-sorted 0, zeros))
        | inr equal ↦ inr (equal.0, omega (arith, occurrences-sorted equal.0, equal.1))
      ]

  -- a list whose numbers rise when sorted has neither
  pub not_refused : rises 0 sorted ≡ true → (0 < occurrences 0 list) ⊎ HasTwoEqual list → ⊥
  not_refused up bad =
      elim bad [
        | inl zeros ↦ omega (arith, occurrences-sorted 0, zeros, occurrences-low 0 0 sorted up (omega arith))
        | inr equal ↦ omega (arith, occurrences-sorted equal.0, equal.1, occurrences-rises 0 equal.0 sorted up)
      ]

-- two lists that rise and have the same numbers are one list
same_rising : (last : ℕ) (a b : List ℕ) → rises last a ≡ true → rises last b ≡ true
    → ((number : ℕ) → occurrences number a ≡ occurrences number b) → a ≡ b
same_rising last [] [] up_a up_b same = refl
same_rising last [] (y ∷ ys) up_a up_b same = absurd (omega (arith, same y, occurrences-same y y ys (eq-eqb y y refl)))
same_rising last (x ∷ xs) [] up_a up_b same = absurd (omega (arith, same x, occurrences-same x x xs (eq-eqb x x refl)))
same_rising last (x ∷ xs) (y ∷ ys) up_a up_b same =
    heads (test_is (ltb x y)) (test_is (ltb y x)) (λ equal. same_rising y xs ys (subst (λ (n : ℕ). rises n xs ≡ true) equal rest_a) rest_b
    (λ number. omega (
      arith,
      same number,
      occurrences-cons number x xs,
      occurrences-cons number y ys,
      ap {B = ℕ} (λ (n : ℕ). cond (eqb n number) 1 0) equal,
    )))
  where
    rest_a : rises x xs ≡ true
    rest_a = (and_parts (ltb last x) (rises x xs) up_a).1

    rest_b : rises y ys ≡ true
    rest_b = (and_parts (ltb last y) (rises y ys) up_b).1

    -- a number below the head of a rising list is not in it
    below : (one other : ℕ) (more rest : List ℕ) → ltb one other ≡ true → rises other rest ≡ true
        → occurrences one (one ∷ more) ≡ occurrences one (other ∷ rest) → ⊥
    below one other more rest less up counts =
        let rising : rises one (other ∷ rest) ≡ true = rw less up in
        omega (
          arith,
          counts,
          occurrences-same one one more (eq-eqb one one refl),
          occurrences-low one one (other ∷ rest) rising (omega arith),
        )

    heads : (ltb x y ≡ true) ⊎ (ltb x y ≡ false) → (ltb y x ≡ true) ⊎ (ltb y x ≡ false) → (x ≡ y → xs ≡ ys) → x ∷ xs ≡ y ∷ ys
    heads (inl less) other tails = absurd (below x y xs ys less rest_b (same x))
    heads (inr not_less) (inl more) tails = absurd (below y x ys xs more rest_a (sym (same y)))
    heads (inr not_less) (inr not_more) tails =
        let equal : x ≡ y = omega (arith, ltb-false x y not_less, ltb-false y x not_more) in
        let rest = tails equal in
        λ i. equal i ∷ rest i

module _ (list : List ℕ) where
  -- a list has one order in which its numbers rise
  pub one_order : (a b : List ℕ) → IsPermutation list a → IsPermutation list b → rises 0 a ≡ true → rises 0 b ≡ true → a ≡ b
  one_order a b to_a to_b up_a up_b =
      same_rising 0 a b up_a up_b (λ number. occurrences-sorted list a to_a number ∙ sym (occurrences-sorted list b to_b number))

-- numbers of two bytes, as the elements of an array are
pub AllByRecursion-take : (limit n : ℕ) (numbers : List ℕ) → ((i : ℕ) → get_or numbers i 0 < limit)
    → AllByRecursion (λ number. number < limit) (take n numbers)
AllByRecursion-take limit zero numbers each = tt
AllByRecursion-take limit (suc n) [] each = tt
AllByRecursion-take limit (suc n) (x ∷ xs) each = (each 0, AllByRecursion-take limit n xs (λ i. each (suc i)))
