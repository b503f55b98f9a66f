-- Bytes of which a prefix was written and the rest is queued.
use Rattle.std.proofs.Common.{◌≡◌, ℕ, zero, suc, ◌+◌, List, [], ◌∷◌, ◌++◌, length, take, Option, Result, Ok, Err, refl, ap, sym, ◌∙◌, subst, arith, append_assoc, append-nil}
use Rattle.std.specs.Prelude.{IsErr}
use Rattle.std.specs.Io.KnownBytes.{Appends}
use Rattle.pv_outside.specs.Sink.{Writes}
use Rattle.pv_outside.specs.declared.failed.Failed.{Failed}
use Rattle.std.proofs.KnownBytes.{Appends-nil, Appends-trans}
use Rattle.pv_ports.specs.Sending.{IsSent, Sends}

-- a part of the second of two lists, after the first
take_after : (xs ys : List ℕ) (n k : ℕ) → k ≡ length xs + n → xs ++ take n ys ≡ take k (xs ++ ys)
take_after [] ys n k is = ap (λ (m : ℕ). take m ys) (omega (arith, is))
take_after (x ∷ xs) ys n zero is = absurd (omega (arith, is))
take_after (x ∷ xs) ys n (suc k) is = ap (λ (l : List ℕ). x ∷ l) (take_after xs ys n k (omega (arith, is)))

-- a prefix of a list is one of a longer list
prefix_of_more : (xs ys : List ℕ) (n : ℕ) → (m : ℕ) × (take n xs ≡ take m (xs ++ ys))
prefix_of_more [] ys zero = (0, refl)
prefix_of_more [] ys (suc n) = (0, refl)
prefix_of_more (x ∷ xs) ys zero = (0, refl)
prefix_of_more (x ∷ xs) ys (suc n) =
    let rest = prefix_of_more xs ys n in (suc rest.0, ap (λ (l : List ℕ). x ∷ l) rest.1)

-- a fault came before more was queued
pub fails_before : {T E : Type 0} → (result : Result T E) (old new : Option (List ℕ)) (bytes more queued : List ℕ) → IsErr result
    → (n : ℕ) × Appends old new (take n bytes) → Sends result old new (bytes ++ more) queued
fails_before (Ok value) old new bytes more queued failed cut = absurd cc
fails_before (Err fault) old new bytes more queued failed cut =
    let longer = prefix_of_more bytes more cut.0 in (longer.0, subst (λ (l : List ℕ). Appends old new l) longer.1 cut.1)

module _ (old new : Option (List ℕ)) (bytes queued : List ℕ) where
  -- all is queued
  pub none_written : new ≡ old → queued ≡ bytes → IsSent old new bytes queued
  none_written same all = record {
    written = [];
    wrote = subst (λ (t : Option (List ℕ)). Appends old t []) (sym same) (Appends-nil old);
    split = sym all;
  }

  -- all was written
  pub all_written : Appends old new bytes → queued ≡ [] → IsSent old new bytes queued
  all_written wrote none = record {
    written = bytes;
    wrote = wrote;
    split = sym (append-nil bytes) ∙ ap (λ (l : List ℕ). bytes ++ l) (sym none);
  }

  -- nothing is queued any more
  pub written_all : IsSent old new bytes queued → queued ≡ [] → Appends old new bytes
  written_all sent none =
      subst (λ (l : List ℕ). Appends old new l)
      (sym (append-nil sent.written) ∙ (ap (λ (l : List ℕ). sent.written ++ l) (sym none) ∙ sym sent.split)) sent.wrote

  -- more is queued
  pub queues_more : (more : List ℕ) → IsSent old new bytes queued → IsSent old new (bytes ++ more) (queued ++ more)
  queues_more more sent = record {
    written = sent.written;
    wrote = sent.wrote;
    split = ap (λ (l : List ℕ). l ++ more) sent.split ∙ append_assoc sent.written queued more;
  }

module _ (old now new : Option (List ℕ)) (bytes queued : List ℕ) (sent : IsSent old now bytes queued) where
  -- of what was queued a prefix is written
  pub sends_on : (rest : List ℕ) → IsSent now new queued rest → IsSent old new bytes rest
  sends_on rest more = record {
    written = sent.written ++ more.written;
    wrote = Appends-trans old now new sent.written more.written sent.wrote more.wrote;
    split = sent.split ∙ (ap (λ (l : List ℕ). sent.written ++ l) more.split ∙ sym (append_assoc sent.written more.written rest));
  }

  -- a fault cuts it short
  pub cut_short : (n : ℕ) → Appends now new (take n queued) → (m : ℕ) × Appends old new (take m bytes)
  cut_short n wrote = (
    length sent.written + n,
    subst (λ (l : List ℕ). Appends old new l)
        (take_after sent.written queued n (length sent.written + n) refl
        ∙ ap (λ (l : List ℕ). take (length sent.written + n) l) (sym sent.split))
        (Appends-trans old now new sent.written (take n queued) sent.wrote wrote),
  )

-- what is queued is written, or the write fails
pub sends_all : {T : Type 0} → (result : Result T Failed) (old now new : Option (List ℕ)) (bytes queued rest : List ℕ)
    → IsSent old now bytes queued
    → Writes now new result queued → rest ≡ [] → Sends result old new bytes rest
sends_all (Ok value) old now new bytes queued rest sent wrote none =
    sends_on old now new bytes queued sent rest (all_written now new queued rest wrote none)
sends_all (Err fault) old now new bytes queued rest sent wrote none = cut_short old now new bytes queued sent wrote.0 wrote.1
