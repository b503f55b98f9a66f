-- What a disk in memory reports of its past, over one call.
use Rattle.std.proofs.Common.{◌≡◌, ◌⊎◌, inl, inr, ⊎_elim, ℕ, suc, ◌+◌, ◌-◌, ◌<◌, ◌≤◌, min, Bool, List, [], ◌∷◌, length, take, sym, ◌∙◌, ap, subst, arith, if◌then◌else◌, rules}
use Rattle.std.proofs.lemmas.Bool.{cases_lt, lt-ltb, le-ltb}
use Rattle.std.proofs.lemmas.List.{length-take, take-take}
use Rattle.pv_outside.specs.declared.failed.TheConstants.{COUNT_END}
use Rattle.pv_outside.specs.declared.disk.TheConstants.{KEPT_CALLS, KEPT_BYTES}
use Rattle.pv_outside.specs.Disk.{Elapses, IsLaterBy}
use Rattle.pv_memory.specs.Medium.{Medium, Moment, moment_of, IsImage, LeftIn, IsTooFarBack, LeftSince, past_after}

-- a time is forgotten, or the clock counts and all moments since then are known
is_known : (m : Medium) (t : ℕ) → IsTooFarBack m t ⊎ ((m.clock < COUNT_END) × (m.clock ≤ t + length m.past))
is_known m t = grind arith

-- A call that succeeded, and wrote `size` bytes.
module _ (size : ℕ) (old new : Medium) (clock : new.clock ≡ min (old.clock + 1) COUNT_END) (past : new.past ≡ past_after size old) where
  -- after a small write the moments that are known are that before this call and the last seven before it
  past_small : size ≤ KEPT_BYTES → new.past ≡ moment_of old ∷ take 7 old.past
  past_small small = past ∙ ap (λ (b : Bool). if b then [] else take KEPT_CALLS (moment_of old ∷ old.past)) (le-ltb KEPT_BYTES size small)

  -- after a small write one moment more is known, up to eight
  length_small : size ≤ KEPT_BYTES → length new.past ≡ min 7 (length old.past) + 1
  length_small small = ap length (past_small small) ∙ omega (arith, length-take 7 old.past)

  -- after a large write no moment is known
  length_large : KEPT_BYTES < size → length new.past ≡ 0
  length_large large = ap length (past ∙ ap (λ (b : Bool). if b then [] else take KEPT_CALLS (moment_of old ∷ old.past)) (lt-ltb KEPT_BYTES size large))

  -- What is known of a time before this call that is not forgotten after it.
  module _ (t : ℕ) (le : t ≤ old.clock) (counts : new.clock < COUNT_END) (near : new.clock ≤ t + length new.past) where
    -- the call wrote little
    small : size ≤ KEPT_BYTES
    small = grind arith

    -- the moments since then are that before this call, and those that were known before it
    known : take (new.clock - t) new.past ≡ moment_of old ∷ take (old.clock - t) old.past
    known =
        let one_more : new.clock - t ≡ suc (old.clock - t) = omega arith in
        let within : old.clock - t ≤ 7 = omega (arith, length_small small) in
        ap (λ (n : ℕ). take n new.past) one_more
        ∙ ap (λ (p : List Moment). take (suc (old.clock - t)) p) (past_small small)
        ∙ ap (λ (p : List Moment). moment_of old ∷ p) (take-take (old.clock - t) 7 old.past within)

    -- what a crash might have left since then, it might have left before this call, or may leave now
    one_back : (image : List ℕ) → LeftIn (moment_of new ∷ take (new.clock - t) new.past) image
        → LeftSince old t image ⊎ IsImage (moment_of new) image
    one_back image (inl here) = inr here
    one_back image (inr before) = inl (inr (subst (λ (p : List Moment). LeftIn p image) known before))

    -- what it might have left before this call, it still might have left since then
    still_left : (image : List ℕ) → LeftSince old t image → LeftSince new t image
    still_left image (inl (inl ended)) = absurd (omega arith)
    still_left image (inl (inr far)) = absurd (omega (arith, length_small small))
    still_left image (inr left) = inr (inr (subst (λ (p : List Moment). LeftIn p image) (sym known) left))

  -- after a call, a crash since a time might have left what it might have left before, or what it may leave now, or the time is forgotten
  nothing_else : (t : ℕ) (image : List ℕ) → t ≤ old.clock → LeftSince new t image
      → LeftSince old t image ⊎ (IsImage (moment_of new) image ⊎ IsTooFarBack new t)
  nothing_else t image le (inl forgotten) = inr (inr forgotten)
  nothing_else t image le (inr left) = elim (is_known new t) [
    | inl forgotten ↦ inr (inr forgotten)
    | inr known ↦ ⊎_elim (λ was. inl was) (λ here. inr (inl here)) (one_back t le known.0 known.1 image left)
  ]

  -- what a crash might have left before this call still counts afterwards
  keeps : (t : ℕ) (image : List ℕ) → t ≤ old.clock → LeftSince old t image → LeftSince new t image
  keeps t image le left = search (rules, is_known, known, still_left)

  -- a call forgets a time only if more than eight calls have succeeded since, or if the call wrote much
  forgets : (t : ℕ) → t ≤ old.clock → IsTooFarBack new t → IsTooFarBack old t ⊎ (IsLaterBy (KEPT_CALLS + 1) t new.clock ⊎ (KEPT_BYTES < size))
  forgets t le (inl ended) = inr (inl (omega arith))
  forgets t le (inr far) = elim (cases_lt KEPT_BYTES size) [
    | inl large ↦ inr (inr large)
    | inr small ↦ elim (cases_lt (length old.past) 7) [
      | inl few ↦ inl (inr (omega (arith, length_small small)))
      | inr many ↦ inr (inl (omega (arith, length_small small)))
    ]
  ]

  -- a time that was forgotten stays so
  stays : (t : ℕ) → t ≤ old.clock → IsTooFarBack old t → IsTooFarBack new t
  stays t le (inl ended) = inl (omega (arith, ended, clock))
  stays t le (inr far) = elim (cases_lt new.clock COUNT_END) [
    | inl counts ↦ elim (cases_lt KEPT_BYTES size) [
      | inl large ↦ inr (omega (arith, far, clock, counts, length_large large))
      | inr small ↦ inr (omega (arith, far, clock, counts, length_small small))
    ]
    | inr ended ↦ inl ended
  ]

  -- each call of a disk in memory lets time go on as the trait says
  pub elapses : old.clock ≤ COUNT_END
      → Elapses old.clock new.clock (IsTooFarBack old) (IsTooFarBack new) (LeftSince old) (LeftSince new) (IsImage (moment_of new)) size
  elapses ends = record { later = omega (arith, clock, ends); stays = stays; nothing_else = nothing_else; keeps = keeps; forgets = forgets }
