-- Which roots cover a page: those whose digits are a prefix of its own.
use Rattle.std.proofs.Common.{◌≡◌, ◌≢◌, ℕ, ◌+◌, ◌/◌, ◌%◌, ◌<◌, ◌≤◌, ◌⊎◌, inl, inr, true, List, [], ◌∷◌, ◌++◌, length, drop, decimal, refl, sym, ap, ◌∙◌, append_assoc, arith}
use Rattle.std.proofs.lemmas.Bool.{cases_lt}
use Rattle.std.proofs.lemmas.Bool.Decides.{Decides-eqb}
use Rattle.std.proofs.lemmas.Fmt.{decimal_digit, decimal_nonempty, decimal_injective, decimal_step}
use Rattle.std.proofs.lemmas.List.{append-nil, length-append}
use Rattle.std.proofs.lemmas.Slice.Eq.{starts_is}
use Rattle.pv_page.specs.Names.{IsPage, Covers, covers}

-- the test finds what follows the root's digits
from_test : (root page : ℕ) → covers root page ≡ true → Covers root page
from_test root page is =
    (drop (length (decimal root)) (decimal page), (starts_is Decides-eqb (decimal page) (decimal root) (covers root page) refl).0 is)

to_test : (root page : ℕ) → Covers root page → covers root page ≡ true
to_test root page is = (starts_is Decides-eqb (decimal page) (decimal root) (covers root page) refl).1 is.0 is.1

-- a page covers itself
pub covers-itself : (page : ℕ) → covers page page ≡ true
covers-itself page = to_test page page ([], sym (append-nil (decimal page)))

-- what covers a root covers what the root covers
pub covers-through : (a b c : ℕ) → covers a b ≡ true → covers b c ≡ true → covers a c ≡ true
covers-through a b c first second =
    let one = from_test a b first in
    let two = from_test b c second in
    to_test a c (one.0 ++ two.0, two.1 ∙ ap (λ l. l ++ two.0) one.1 ∙ append_assoc (decimal a) one.0 two.0)

-- the first list is a prefix of the second
abbrev Begins : List ℕ → List ℕ → Type 0
Begins xs ys = (more : List ℕ) × (ys ≡ xs ++ more)

-- of two prefixes of one list, one is a prefix of the other
one_begins : (xs ys us vs : List ℕ) → xs ++ us ≡ ys ++ vs → Begins xs ys ⊎ Begins ys xs
one_begins [] ys us vs same = inl (ys, refl)
one_begins (x ∷ xs) [] us vs same = inr (x ∷ xs, refl)
one_begins (x ∷ xs) (y ∷ ys) us vs same =
    let head : x ≡ y = cc in
    let tail : xs ++ us ≡ ys ++ vs = cc in
    by head (one_begins xs ys us vs tail)
  where
    by : x ≡ y → Begins xs ys ⊎ Begins ys xs → Begins (x ∷ xs) (y ∷ ys) ⊎ Begins (y ∷ ys) (x ∷ xs)
    by head (inl first) = inl (first.0, rw (head, first.1) refl)
    by head (inr second) = inr (second.0, rw (head, second.1) refl)

-- of two roots that cover one page, one covers the other
pub one_covers : (a b page : ℕ) → covers a page ≡ true → covers b page ≡ true → (covers a b ≡ true) ⊎ (covers b a ≡ true)
one_covers a b page first second =
    let one = from_test a page first in
    let two = from_test b page second in
    by (one_begins (decimal a) (decimal b) one.0 two.0 (sym one.1 ∙ two.1))
  where
    by : Begins (decimal a) (decimal b) ⊎ Begins (decimal b) (decimal a) → (covers a b ≡ true) ⊎ (covers b a ≡ true)
    by (inl is) = inl (to_test a b is)
    by (inr is) = inr (to_test b a is)

-- a list with something after it, of the same length, has nothing after it
nothing_after : (xs more : List ℕ) → length (xs ++ more) ≤ length xs → more ≡ []
nothing_after xs [] short = refl
nothing_after xs (x ∷ more) short = absurd (omega (arith, short, length-append xs (x ∷ more)))

-- two pages that cover each other are one
pub covers-both : (a b : ℕ) → IsPage a → IsPage b → covers a b ≡ true → covers b a ≡ true → a ≡ b
covers-both a b is_a is_b first second =
    let one = from_test a b first in
    let two = from_test b a second in
    let short : length (decimal a ++ one.0) ≤ length (decimal a) =
    omega (arith, ap (λ (l : List ℕ). length l) one.1, ap (λ (l : List ℕ). length l) two.1, length-append (decimal b) two.0) in
    let none : one.0 ≡ [] = nothing_after (decimal a) one.0 short in
    decimal_injective a b (omega arith) (omega arith) (sym (one.1 ∙ ap (λ l. decimal a ++ l) none ∙ append-nil (decimal a)))

-- a page of several digits is covered by what it is without the last one
pub covers-shorter : (page : ℕ) → IsPage page → 10 ≤ page → covers (page / 10) page ≡ true
covers-shorter page is several = to_test (page / 10) page ((48 + page % 10) ∷ [], decimal_step page several (omega arith))

module _ (root page : ℕ) (is_root : IsPage root) (is_page : IsPage page) (other : root ≢ page) where
  -- what follows the root's digits
  several : (more : List ℕ) → decimal page ≡ decimal root ++ more → 10 ≤ page
  several [] same = absurd (other (sym (decimal_injective page root (omega arith) (omega arith) (same ∙ append-nil (decimal root)))))
  several (x ∷ more) same = by (cases_lt page 10)
    where
      by : (page < 10) ⊎ (10 ≤ page) → 10 ≤ page
      by (inr long) = long
      by (inl short) =
          let one : length (decimal page) ≡ 1 = ap (λ (l : List ℕ). length l) (decimal_digit page short) in
          let some = decimal_nonempty root (omega arith) in
          absurd (omega (arith, one, some, ap (λ (l : List ℕ). length l) same, length-append (decimal root) (x ∷ more)))

  -- so it covers that page without its last digit
  pub covers-without_last : covers root page ≡ true → (10 ≤ page) × (covers root (page / 10) ≡ true)
  covers-without_last is =
      let follows = from_test root page is in
      let long = several follows.0 follows.1 in
      (long, shorter follows.0 follows.1 long)
    where
      shorter : (more : List ℕ) → decimal page ≡ decimal root ++ more → 10 ≤ page → covers root (page / 10) ≡ true
      shorter [] same long =
          absurd (other (sym (decimal_injective page root (omega arith) (omega arith) (same ∙ append-nil (decimal root)))))
      shorter (x ∷ more) same long =
          let step = decimal_step page long (omega arith) in
          by (one_begins (decimal root) (decimal (page / 10)) (x ∷ more) ((48 + page % 10) ∷ []) (sym same ∙ step))
        where
          by : Begins (decimal root) (decimal (page / 10)) ⊎ Begins (decimal (page / 10)) (decimal root) → covers root (page / 10) ≡ true
          by (inl begins) = to_test root (page / 10) begins
          by (inr begins) =
              let few : length (decimal (page / 10) ++ begins.0) ≤ length (decimal (page / 10)) =
              omega (
                arith,
                ap (λ (l : List ℕ). length l) begins.1,
                ap (λ (l : List ℕ). length l) (sym same ∙ decimal_step page long (omega arith)),
                length-append (decimal root) (x ∷ more),
                length-append (decimal (page / 10)) ((48 + page % 10) ∷ []),
              ) in
              let none = nothing_after (decimal (page / 10)) begins.0 few in
              to_test root (page / 10) (
                [],
                sym (begins.1 ∙ ap (λ l. decimal (page / 10) ++ l) none ∙ append-nil (decimal (page / 10)))
                    ∙ sym (append-nil (decimal root)),
              )
