-- How many ports the centres of a network have, and which doors.
use Rattle.std.proofs.Common.{◌≡◌, ℕ, ◌+◌, ◌*◌, List, [], ◌∷◌, ◌++◌, length, Option, None, Some, append-nil, arith}
use native.Mathlib.Nat.{add-mul}
use Rattle.pv_centres.specs.Opening.{weigh, count_of}

-- a centre, if it is there, has its ports
one_of_them : {T : Type 0} (n : ℕ) (x : Option T) → count_of x * n ≡ weigh (λ there. n) x
one_of_them n None = omega arith
one_of_them n (Some there) = omega arith

-- and all have theirs
pub all_of_them : {A B C D : Type 0} (n : ℕ) (a : Option A) (b : Option B) (c : Option C) (d : Option D)
    → (count_of a + count_of b + count_of c + count_of d) * n
    ≡ weigh (λ there. n) a + weigh (λ there. n) b + weigh (λ there. n) c + weigh (λ there. n) d
all_of_them n a b c d =
    omega (
      arith,
      add-mul (count_of a + count_of b + count_of c) (count_of d) n,
      add-mul (count_of a + count_of b) (count_of c) n,
      add-mul (count_of a) (count_of b) n,
      one_of_them n a,
      one_of_them n b,
      one_of_them n c,
      one_of_them n d,
    )

-- if none is left, nothing was left
none_left : {X : Type 0} (xs rest : List X) → length rest ≡ 0 → xs ++ rest ≡ xs
none_left xs [] none = append-nil xs
none_left xs (x ∷ rest) none = absurd (omega (arith, none))

-- the doors of four rows, taken two rows at a time until none is left
pub taken_count : {X : Type 0} (all a b c d middle rest : List X) → all ≡ a ++ (b ++ middle) → middle ≡ c ++ (d ++ rest) → length rest ≡ 0
    → a ++ (b ++ (c ++ d)) ≡ all
taken_count all a b c d middle rest first second none =
    let last = none_left d rest none in
    cc
