-- Texts that are written one after another, and a write that fails after them.
use Rattle.std.proofs.Common.{◌≡◌, ℕ, zero, suc, ◌+◌, ◌≤◌, List, [], ◌∷◌, ◌++◌, take, Option, Some, None, Result, Ok, Err, IsErr, refl, sym, ap, subst, ◌∙◌, append_assoc, arith}
use Rattle.std.specs.Io.KnownBytes.{Appends}
use Rattle.std.proofs.lemmas.List.{append-nil}
use Rattle.pv_outside.specs.Counts.{CountsFaults, Rose}
use Rattle.pv_outside.specs.Sink.{Writes}
use Rattle.pv_outside.specs.declared.failed.Failed.{Failed}

-- to append nothing changes nothing
pub appends_none : (a : Option (List ℕ)) → Appends a a []
appends_none None = tt
appends_none (Some xs) = sym (append-nil xs)

-- two texts that were appended one after the other are one text that was
pub appends_both : (a b c : Option (List ℕ)) (x y : List ℕ) → Appends a b x → Appends b c y → Appends a c (x ++ y)
appends_both None b c x y p q = tt
appends_both (Some xs) None c x y p q = absurd p
appends_both (Some xs) (Some ys) None x y p q = absurd q
appends_both (Some xs) (Some ys) (Some zs) x y p q = q ∙ ap (λ (l : List ℕ). l ++ y) p ∙ append_assoc xs x y

-- a prefix of a text is a prefix of a longer one
take_longer : (n : ℕ) (y later : List ℕ) → (m : ℕ) × (take n y ≡ take m (y ++ later))
take_longer zero y later = (0, refl)
take_longer (suc n) [] later = (0, refl)
take_longer (suc n) (c ∷ y) later = let more = take_longer n y later in (suc more.0, ap (λ (l : List ℕ). c ∷ l) more.1)

-- a prefix of a text, after another text, is a prefix of these and of what comes later
take_within : (x : List ℕ) (n : ℕ) (y later : List ℕ) → (m : ℕ) × (x ++ take n y ≡ take m (x ++ y ++ later))
take_within [] n y later = take_longer n y later
take_within (c ∷ x) n y later = let more = take_within x n y later in (suc more.0, ap (λ (l : List ℕ). c ∷ l) more.1)

-- the next text was written too
pub appends_more : (a b c : Option (List ℕ)) (x y : List ℕ) {both : List ℕ} → both ≡ x ++ y → Appends a b x → Appends b c y → Appends a c both
appends_more a b c x y is before now = rw is (appends_both a b c x y before now)

-- the next write failed after a prefix, and what comes later was not written
pub writes_part : {T : Type 0} (a b c : Option (List ℕ)) (x y later : List ℕ) (result : Result T Failed) {whole : List ℕ}
    → IsErr result → whole ≡ x ++ y ++ later → Appends a b x → (n : ℕ) × Appends b c (take n y) → Writes a c result whole
writes_part a b c x y later (Ok value) fails is before now = absurd cc
writes_part a b c x y later (Err failed) fails is before now =
    let more = take_within x now.0 y later in
    rw is ((more.0, subst (λ (l : List ℕ). Appends a c l) more.1 (appends_both a b c x (take now.0 y) before now.1)))

-- a call that failed after others did not fail without the count
pub counts_part : {T U : Type 0} {f g h : ℕ} {e : Failed} (result : Result U Failed) → IsErr result
    → f ≤ g → CountsFaults {T = T} g h (Err e) → CountsFaults f h result
counts_part result fails before now =
    let rose = now.failed refl in
    record { counted = omega (arith, before, now.counted); failed = λ fails. omega (arith, before, rose) }
