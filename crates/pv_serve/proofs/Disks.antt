-- Disks that are formatted one after the other.
use Rattle.std.proofs.Common.{inl, inr, ℕ, zero, suc, ◌+◌, ◌<◌, ◌≤◌, List, [], ◌∷◌, length, set, get_or, take, All, subst, sym, arith}
use Rattle.std.proofs.lemmas.List.{take_more_set}
use Rattle.std.proofs.lemmas.List.Elements.{All-append, All-cons}
use Rattle.pv_outside.specs.Counts.{Rose}
use Rattle.pv_outside.specs.declared.reports.Reports as reports
use Rattle.pv_serve.specs.Formatting.{NoneFell, OneRose}

-- a count that did not fall, and then rose, rose
rose_after : (before between now : ℕ) → before ≤ between → Rose between now → Rose before now
rose_after before between now kept rose = omega (arith, kept, rose)

module _ {D : Type 0} (g : reports.Ghosts D) where
  -- disks that nothing was done to
  pub none_fell_yet : (disks : List D) → NoneFell g disks disks
  none_fell_yet [] = tt
  none_fell_yet (disk ∷ disks) = (omega arith, none_fell_yet disks)

  -- no count fell, and that of the next disk does not
  pub none_fell_with : (before now : List D) (i : ℕ) (old new : D) → NoneFell g before now → i < length now
      → g.faults (get_or now i old) ≤ g.faults new → NoneFell g before (set now i new)
  none_fell_with [] [] i old new kept there more = absurd (omega (arith, there))
  none_fell_with [] (disk ∷ now) i old new kept there more = elim kept [ ]
  none_fell_with (first ∷ before) [] i old new kept there more = elim kept [ ]
  none_fell_with (first ∷ before) (disk ∷ now) zero old new kept there more = (omega (arith, kept.0, more), kept.1)
  none_fell_with (first ∷ before) (disk ∷ now) (suc i) old new kept there more =
      (kept.0, none_fell_with before now i old new kept.1 (omega (arith, there)) more)

  -- no count fell, and that of the next disk rises
  pub one_rose_with : (before now : List D) (i : ℕ) (old new : D) → NoneFell g before now → i < length now
      → Rose (g.faults (get_or now i old)) (g.faults new) → OneRose g before (set now i new)
  one_rose_with [] [] i old new kept there rose = absurd (omega (arith, there))
  one_rose_with [] (disk ∷ now) i old new kept there rose = elim kept [ ]
  one_rose_with (first ∷ before) [] i old new kept there rose = elim kept [ ]
  one_rose_with (first ∷ before) (disk ∷ now) zero old new kept there rose = inl (rose_after _ _ _ kept.0 rose)
  one_rose_with (first ∷ before) (disk ∷ now) (suc i) old new kept there rose =
      inr (one_rose_with before now i old new kept.1 (omega (arith, there)) rose)

-- all so far have P, and the next one gets it
pub all_with : {X : Type 0} (P : X → Type 0) (xs : List X) (i : ℕ) (x : X) → i < length xs → All P (take i xs) → P x
    → All P (take (i + 1) (set xs i x))
all_with P xs i x there all is = subst (All P) (sym (take_more_set xs i x there))
    (All-append P (take i xs) (x ∷ []) all (All-cons P x [] is (λ k d h. absurd (omega (arith, h)))))
