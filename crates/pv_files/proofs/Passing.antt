-- Accepts of a listener that are passed over, until one is not.
use Rattle.std.proofs.Common.{◌≡◌, ℕ, zero, suc, ◌+◌, ◌≤◌, List, [], ◌∷◌, ◌++◌, length, drop, Bool, true, false, Option, Some, refl, sym, ◌∙◌, ap, subst, add-one, arith}
use Rattle.std.specs.Prelude.{All, IsTrue}
use Rattle.std.proofs.lemmas.Bool.{false≢true}
use Rattle.std.proofs.lemmas.List.Elements.{All-head, All-tail}
use Rattle.std.specs.declared.io.ErrorKind.{ErrorKind}
use Rattle.pv_files.specs.Coming.{HasCome, is_passed_over}

-- an end that is passed over
abbrev pub IsPassedOver : Option ErrorKind → Type 0
IsPassedOver end = IsTrue (is_passed_over end)

module _ (next : Option ErrorKind) (rest : List (Option ErrorKind)) (counts : is_passed_over next ≡ false)
    (before now : Option (List (Option ErrorKind))) (end : Option ErrorKind) (come : HasCome before now end) where
  -- the next accept is passed over, so that it is one of those
  passed_too : (k : ℕ) (passed : List (Option ErrorKind)) → k ≤ length passed → before ≡ Some (drop k passed ++ next ∷ rest)
      → is_passed_over end ≡ true → (suc k ≤ length passed) × (now ≡ Some (drop (suc k) passed ++ next ∷ rest))
  passed_too zero [] le is over = absurd (false≢true (sym counts ∙ sym (ap is_passed_over (come next rest is).0) ∙ over))
  passed_too zero (first ∷ passed) le is over = (omega arith, (come first (passed ++ next ∷ rest) is).1)
  passed_too (suc k) [] le is over = absurd (omega (arith, le))
  passed_too (suc k) (first ∷ passed) le is over =
      let later = passed_too k passed (omega (arith, le)) is over in
      (omega (arith, later.0), later.1)

  -- one more is passed over, after as many tries
  pub one_passed : (k : ℕ) (passed : List (Option ErrorKind)) → k ≤ length passed → before ≡ Some (drop k passed ++ next ∷ rest)
      → is_passed_over end ≡ true → (k + 1 ≤ length passed) × (now ≡ Some (drop (k + 1) passed ++ next ∷ rest))
  one_passed k passed le is over =
      let later = passed_too k passed le is over in
      (omega (arith, later.0), subst (λ (n : ℕ). now ≡ Some (drop n passed ++ next ∷ rest)) (sym (add-one k)) later.1)

  -- the next accept is not passed over, so that it comes after those
  pub none_left : (k : ℕ) (passed : List (Option ErrorKind)) → k ≤ length passed → before ≡ Some (drop k passed ++ next ∷ rest)
      → All IsPassedOver passed → is_passed_over end ≡ false → (end ≡ next) × (now ≡ Some rest)
  none_left zero [] le is all ends = come next rest is
  none_left zero (first ∷ passed) le is all ends =
      absurd (false≢true (sym ends ∙ ap is_passed_over (come first (passed ++ next ∷ rest) is).0 ∙ All-head IsPassedOver first passed all))
  none_left (suc k) [] le is all ends = absurd (omega (arith, le))
  none_left (suc k) (first ∷ passed) le is all ends = none_left k passed (omega (arith, le)) is (All-tail IsPassedOver first passed all) ends
