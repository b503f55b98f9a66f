-- What new passes have counted.
use Rattle.std.proofs.Common.{◌≡◌, ℕ, zero, suc, ◌+◌, List, [], ◌∷◌, ◌++◌, refl, arith}
use Rattle.pv_live.specs.Pass.{Standing, new_pass, new_passes, told_count, failed_count}

module _ {T : Type 0} where
  -- with one pass more, its records are counted too
  told_more : (passes : List (Standing T)) (pass : Standing T) → told_count (passes ++ pass ∷ []) ≡ told_count passes + pass.told
  told_more [] pass = omega arith
  told_more (x ∷ passes) pass = omega (arith, told_more passes pass)

  -- so are its asks that failed
  failed_more : (passes : List (Standing T)) (pass : Standing T) → failed_count (passes ++ pass ∷ []) ≡ failed_count passes + pass.failed
  failed_more [] pass = omega arith
  failed_more (x ∷ passes) pass = omega (arith, failed_more passes pass)

-- new passes were told of nothing
pub none_told : (T : Type 0) (n : ℕ) → told_count (new_passes {T = T} n) ≡ 0
none_told T zero = refl
none_told T (suc n) = omega (arith, told_more (new_passes {T = T} n) (new_pass n), none_told T n)

-- none of their asks has failed
pub none_failed : (T : Type 0) (n : ℕ) → failed_count (new_passes {T = T} n) ≡ 0
none_failed T zero = refl
none_failed T (suc n) = omega (arith, failed_more (new_passes {T = T} n) (new_pass n), none_failed T n)
