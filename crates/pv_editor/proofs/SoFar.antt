-- Numbers that are read part by part.
use Rattle.std.proofs.Common.{◌≡◌, ℕ, ◌<◌, ◌^◌, List, [], ◌∷◌, ◌++◌, length, refl, sym, ap, subst, ◌∙◌, append_assoc, length-append, arith}
use Rattle.std.specs.List.{AllZip}
use Rattle.std.proofs.lemmas.List.{append-nil}
use Rattle.pv_words.specs.Numbers.{IsBelow}

-- the numbers are those of the parts
abbrev pub Are : List ℕ → List (List ℕ) → Type 0
Are numbers parts = AllZip (λ number part. IsBelow (2 ^ 16) number part) numbers parts

-- the numbers so far are those of the first parts, and these parts are left
pub record AreSoFar (parts : List (List ℕ)) (numbers : List ℕ) (left : List (List ℕ)) : Type 0 where
  pub back : (more : List ℕ) → Are more left → Are (numbers ++ more) parts
  pub forth : (all : List ℕ) → Are all parts → (more : List ℕ) × (all ≡ numbers ++ more) × Are more left

-- at first all are left
pub so_far-none : (parts : List (List ℕ)) → AreSoFar parts [] parts
so_far-none parts = record { back = λ more are. are; forth = λ all are. (all, refl, are) }

module _ (parts : List (List ℕ)) (numbers : List ℕ) where
  -- at the end none is
  pub so_far-all : AreSoFar parts numbers [] → Are numbers parts × ((all : List ℕ) → Are all parts → numbers ≡ all)
  so_far-all so_far = (subst (λ (ns : List ℕ). Are ns parts) (append-nil numbers) (so_far.back [] tt), only)
    where
      ends : (all more : List ℕ) → all ≡ numbers ++ more → Are more [] → numbers ≡ all
      ends all [] is are = sym (is ∙ append-nil numbers)
      ends all (m ∷ more) is are = absurd are

      only : (all : List ℕ) → Are all parts → numbers ≡ all
      only all are = let f = so_far.forth all are in ends all f.0 f.1 f.2

  module _ (part : List ℕ) (left : List (List ℕ)) (so_far : AreSoFar parts numbers (part ∷ left)) where
    -- one number more
    pub so_far-more : (n : ℕ) → IsBelow (2 ^ 16) n part → ((m : ℕ) → IsBelow (2 ^ 16) m part → n ≡ m)
        → AreSoFar parts (numbers ++ n ∷ []) left
    so_far-more n is only = record {
      back = λ more are.
          subst (λ (ns : List ℕ). Are ns parts) (sym (append_assoc numbers (n ∷ []) more)) (so_far.back (n ∷ more) (is, are));
      forth = λ all are. let f = so_far.forth all are in next all f.0 f.1 f.2;
    }
      where
        next : (all more : List ℕ) → all ≡ numbers ++ more → Are more (part ∷ left)
            → (rest : List ℕ) × (all ≡ (numbers ++ n ∷ []) ++ rest) × Are rest left
        next all [] same are = absurd are
        next all (m ∷ rest) same are =
            (rest, same ∙ ap (λ (k : ℕ). numbers ++ k ∷ rest) (sym (only m are.0)) ∙ sym (append_assoc numbers (n ∷ []) rest), are.1)

    -- the next part is no number: then all are not
    pub so_far-bad : ((m : ℕ) → IsBelow (2 ^ 16) m part → ⊥) → (all : List ℕ) → Are all parts → ⊥
    so_far-bad bad all are = let f = so_far.forth all are in next f.0 f.2
      where
        next : (more : List ℕ) → Are more (part ∷ left) → ⊥
        next [] are = are
        next (m ∷ rest) are = bad m are.0

    -- there are more numbers than so far
    pub so_far-long : (all : List ℕ) → Are all parts → length numbers < length all
    so_far-long all are = let f = so_far.forth all are in next f.0 f.1 f.2
      where
        next : (more : List ℕ) → all ≡ numbers ++ more → Are more (part ∷ left) → length numbers < length all
        next [] same are = absurd are
        next (m ∷ rest) same are = omega (arith, ap length same, length-append numbers (m ∷ rest))
