-- Texts that are written one after another, and a write that fails after them.
use Rattle.std.proofs.Common.{◌≡◌, ℕ, zero, suc, ◌≤◌, List, [], ◌∷◌, ◌++◌, take, Option, Some}
use Rattle.std.proofs.Common.{None, Result, Ok, Err, IsErr, refl, sym, ap, subst, ◌∙◌, append_assoc, arith}
use Rattle.std.specs.Io.KnownBytes.{Appends}
use Rattle.std.proofs.lemmas.List.{append-nil}
use Rattle.pv_outside.specs.declared.failed.Failed.{Failed}
use Rattle.pv_gen.specs.Writing.{AppendsOrFails}

-- a text was written whole
pub record Wrote (before now : Option (List ℕ)) (faults_before faults_now : ℕ) (text : List ℕ) : Type 0 where
  pub written : Appends before now text
  pub counted : faults_before ≤ faults_now

-- ---- what is known of a sink's bytes

-- to append nothing changes nothing
appends_none : (a : Option (List ℕ)) → Appends a a []
appends_none None = tt
appends_none (Some xs) = sym (append-nil xs)

-- two texts that were appended one after the other are one text that was
appends_both : (a b c : Option (List ℕ)) (x y : List ℕ) → Appends a b x → Appends b c y → Appends a c (x ++ y)
appends_both None b c x y p q = tt
appends_both (Some xs) None c x y p q = absurd p
appends_both (Some xs) (Some ys) None x y p q = absurd q
appends_both (Some xs) (Some ys) (Some zs) x y p q = q ∙ ap (λ (l : List ℕ). l ++ y) p ∙ append_assoc xs x y

-- a prefix of a text is a prefix of a longer one
take_longer : (n : ℕ) (y later : List ℕ) → (m : ℕ) × (take n y ≡ take m (y ++ later))
take_longer zero y later = (0, refl)
take_longer (suc n) [] later = (0, refl)
take_longer (suc n) (c ∷ y) later = let more = take_longer n y later in (suc more.0, ap (λ (l : List ℕ). c ∷ l) more.1)

-- a prefix of a text, after another text, is a prefix of these and of what comes later
take_within : (x : List ℕ) (n : ℕ) (y later : List ℕ) → (m : ℕ) × (x ++ take n y ≡ take m (x ++ y ++ later))
take_within [] n y later = take_longer n y later
take_within (c ∷ x) n y later = let more = take_within x n y later in (suc more.0, ap (λ (l : List ℕ). c ∷ l) more.1)

-- ---- one write after another

-- nothing was written yet
pub wrote-none : {a : Option (List ℕ)} {f : ℕ} → Wrote a a f f []
wrote-none {a = a} = record { written = appends_none a; counted = omega arith }

-- a text that is the same was written
pub same-text : {T : Type 0} {a b : Option (List ℕ)} {f g : ℕ} {result : Result T Failed} {x y : List ℕ}
    → x ≡ y → AppendsOrFails a b f g result x → AppendsOrFails a b f g result y
same-text {a = a} {b = b} {f = f} {g = g} {result = result} is wrote = subst (λ (l : List ℕ). AppendsOrFails a b f g result l) is wrote

module _ {T : Type 0} {a b c : Option (List ℕ)} {f g h : ℕ} where
  -- the next text was written too
  pub wrote-more : {x y both : List ℕ} {value : T} → both ≡ x ++ y → Wrote a b f g x → AppendsOrFails b c g h (Ok value) y
      → Wrote a c f h both
  wrote-more {x = x} {y = y} is before now =
      rw is (record {
        written = appends_both a b c x y before.written now.written;
        counted = omega (arith, before.counted, now.account.counted);
      })

  -- the next write failed, and what comes later was not written
  pub fails-after : {U : Type 0} {x y whole : List ℕ} {e : Failed} (result : Result U Failed) (later : List ℕ)
      → IsErr result → whole ≡ x ++ y ++ later
      → Wrote a b f g x → AppendsOrFails {T = T} b c g h (Err e) y → AppendsOrFails {T = U} a c f h result whole
  fails-after (Ok value) later fails is before now = absurd cc
  fails-after {x = x} {y = y} (Err failed) later fails is before now =
      let part = now.written in
      let more = take_within x part.0 y later in
      let rose = now.account.failed refl in
      rw is (record {
        written = (more.0, subst (λ (l : List ℕ). Appends a c l) more.1 (appends_both a b c x (take part.0 y) before.written part.1));
        account = record {
          counted = omega (arith, before.counted, now.account.counted);
          failed = λ fails. omega (arith, before.counted, rose);
        };
      })

-- the last text was written too, or its write failed
pub wrote-last : {T : Type 0} {a b c : Option (List ℕ)} {f g h : ℕ} {x y both : List ℕ} (result : Result T Failed) → both ≡ x ++ y
    → Wrote a b f g x → AppendsOrFails b c g h result y → AppendsOrFails a c f h result both
wrote-last {x = x} {y = y} (Err failed) is before now = fails-after (Err failed) [] refl (is ∙ sym (append-nil (x ++ y))) before now
wrote-last (Ok value) is before now =
    let wrote = wrote-more is before now in
    record { written = wrote.written; account = record { counted = wrote.counted; failed = λ fails. absurd cc } }
