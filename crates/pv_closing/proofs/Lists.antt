-- Lists: what is from an index on, and elements with their numbers.
use Rattle.std.proofs.Common.{◌≡◌, ℕ, zero, suc, ◌+◌, ◌≤◌, List, [], ◌∷◌, ◌++◌, length, take, drop, Option, Some, None, refl, sym, ap, ◌∙◌, arith}
use Rattle.std.specs.Prelude.{slice_get}
use Rattle.std.specs.List.{enumerate_from}

-- from an index on there are its element and the rest
pub drop_here : {A : Type 0} (l : List A) (i : ℕ) (x : A) → slice_get l i ≡ Some x → drop i l ≡ x ∷ drop (suc i) l
drop_here [] i x is = absurd cc
drop_here (y ∷ ys) zero x is = let same : y ≡ x = cc in ap (λ (z : _). z ∷ ys) same
drop_here (y ∷ ys) (suc i) x is = drop_here ys i x is

-- there is no element from the length on
pub length_below : {A : Type 0} (l : List A) (i : ℕ) → slice_get l i ≡ None → length l ≤ i
length_below [] i is = omega arith
length_below (y ∷ ys) zero is = absurd cc
length_below (y ∷ ys) (suc i) is = let more = length_below ys i is in omega (arith, more)

-- what was found at an index is at that index
pub found_at : {A : Type 0} (l : List A) (i place : ℕ) (found : Option A) → i ≡ place → found ≡ slice_get l i → slice_get l place ≡ found
found_at l i place found same is = sym (is ∙ ap (slice_get l) same)

-- one element more
pub take_with_next : {A : Type 0} (before : List A) (x : A) (after : List A)
    → take (suc (length before)) (before ++ x ∷ after) ≡ before ++ x ∷ []
take_with_next [] x after = refl
take_with_next (y ∷ before) x after = ap (λ (l : List _). y ∷ l) (take_with_next before x after)

-- the element of an index has that number, counted on
pub number_at : {A : Type 0} (first : ℕ) (l : List A) (i : ℕ) (x : A) → slice_get l i ≡ Some x
    → slice_get (enumerate_from first l) i ≡ Some (first + i, x)
number_at first [] i x is = absurd cc
number_at first (y ∷ ys) zero x is =
    let here : first ≡ first + 0 = omega arith in let same : y ≡ x = cc in λ j. Some (here j, same j)
number_at first (y ∷ ys) (suc i) x is =
    let there : first + 1 + i ≡ first + suc i = omega arith in
    number_at (first + 1) ys i x is ∙ ap (λ (n : ℕ). Some (n, x)) there

-- there are as many numbers as elements
pub length_numbered : {A : Type 0} (first : ℕ) (l : List A) → length (enumerate_from first l) ≡ length l
length_numbered first [] = refl
length_numbered first (y ∷ ys) = ap suc (length_numbered (first + 1) ys)
