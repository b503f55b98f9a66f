-- A search that finds nothing.
use Rattle.std.proofs.lemmas.{Grind.common_steps, Bool.{cases_lt, le-ltb, lt-ltb}, List.Sums.{position_or_len_is, fails_before_first}}
use Rattle.std.{proofs.Common.{◌≡◌, Bool, false, List, length, All, None, refl, arith}, specs.{Prelude.position, List.position_or_len}}

module _ {X : Type 0} (test : X → Bool) (xs : List X) where
  -- if no index is found, no element passes
  pub all_fail : position test xs ≡ None → All (λ x. test x ≡ false) xs
  all_fail none k d within = grind (arith, common_steps, cases_lt, fails_before_first, lt-ltb)

  -- if no element passes, no index is found
  pub position-none : X → All (λ x. test x ≡ false) xs → position test xs ≡ None
  position-none d none =
      let at_end = position_or_len_is test xs (length xs) d (omega arith) (λ k before. none k d before) (λ within. absurd (omega arith)) in
      rw (le-ltb (position_or_len test xs) (length xs) (omega arith)) refl
