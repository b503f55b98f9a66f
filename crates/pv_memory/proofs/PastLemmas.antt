-- The changes of the last calls, and the moments before them.
use Rattle.std.proofs.Common.{◌≡◌, ◌⊎◌, inl, inr, ℕ, zero, suc, Bool, true, false, nat_lt, if◌then◌else◌, ◌+◌, ◌≤◌, min, List, [], ◌∷◌, ◌++◌, length, take, drop, set, get_or, refl, sym, ◌∙◌, ap, arith, rules}
use Rattle.std.proofs.lemmas.List.{take-take, take_all, take_at, take_more, append_assoc, length-append, length-take, length-drop, drop-set, take-set, drop_all, append-nil}
use Rattle.std.proofs.lemmas.Bool.{cases_lt}
use Rattle.pv_outside.specs.declared.disk.TheConstants.{KEPT_BYTES, KEPT_CALLS}
use Rattle.pv_memory.specs.Medium.{Medium, Moment, moment_of, past_after}
use Rattle.pv_memory.specs.Past.{Change, text_before, moments_before, changes_after}

-- the elements of a ring, from this place on
abbrev from_place : {X : Type 0} → ℕ → List X → List X
from_place place xs = drop place xs ++ take place xs

-- if the element before a place is replaced, the ring from there on is the new element and all others, in their order
turned : {X : Type 0} (x : X) (xs : List X) (place before n : ℕ) → length xs ≡ n + 1
    → (place ≡ before + 1) ⊎ ((place ≡ 0) × (before + 1 ≡ n + 1)) → before ≤ n
    → from_place before (set xs before x) ≡ x ∷ take n (from_place place xs)
turned x xs place before n size at within =
    (λ i. drop-set xs before x (omega arith) i ++ take-set xs before x i) ∙ ap (λ ys. x ∷ ys) (by at)
  where
    by : (place ≡ before + 1) ⊎ ((place ≡ 0) × (before + 1 ≡ n + 1)) → drop (before + 1) xs ++ take before xs ≡ take n (from_place place xs)
    by (inl next) =
        sym (ap (λ p. take n (from_place p xs)) next ∙ ap (λ ys. take n (drop (before + 1) xs ++ ys)) (take_more xs before x (omega arith))
        ∙ ap (λ ys. take n ys) (sym (append_assoc (drop (before + 1) xs) (take before xs) (get_or xs before x ∷ [])))
        ∙ take_at (drop (before + 1) xs ++ take before xs) (get_or xs before x ∷ []) n (omega (arith, length-append (drop (before + 1) xs) (take before xs), length-drop (before + 1) xs, length-take before xs)))
    by (inr last) =
        ap (λ ys. ys ++ take before xs) (drop_all (before + 1) xs (omega (arith, last.1))) ∙ ap (λ k. take k xs) (let e : before ≡ n = omega (arith, last.1) in e)
        ∙ sym (ap (λ ys. take n ys) (ap (λ p. from_place p xs) last.0 ∙ append-nil xs))

-- a list takes a new first element and drops its last one; then the known ones are the new one and those known before, up to
-- the limit
known_more : {X : Type 0} (x : X) (xs : List X) (known n : ℕ) → known ≤ n + 1
    → take (min (known + 1) (n + 1)) (x ∷ take n xs) ≡ take (n + 1) (x ∷ take known xs)
known_more x xs known n le = search (rules, take-take, cases_lt, take_all, length-take)

-- the ring of changes keeps, of those that were known, as many as the limit leaves, after the one of this call
pub kept : {X : Type 0} (x : X) (xs : List X) (place before known known_now n : ℕ) → length xs ≡ n + 1 → known ≤ n + 1
    → known_now ≡ min (known + 1) (n + 1) → (place ≡ before + 1) ⊎ ((place ≡ 0) × (before + 1 ≡ n + 1)) → before ≤ n
    → take known_now (from_place before (set xs before x)) ≡ take (n + 1) (x ∷ take known (from_place place xs))
kept x xs place before known known_now n size le now at within =
    (λ i. take (now i) (turned x xs place before n size at within i)) ∙ known_more x (from_place place xs) known n le

-- the moments before the first of some changes are the first moments before them
moments_take : (text : List ℕ) (n : ℕ) (changes : List Change) → moments_before text (take n changes) ≡ take n (moments_before text changes)
moments_take text zero changes = refl
moments_take text (suc n) [] = refl
moments_take text (suc n) (c ∷ changes) =
    let rest = moments_take (text_before c text) n changes in
    ap (λ (l : List Moment). record { text = text_before c text; end = c.end; pending = c.pending } ∷ l) rest

-- Once a call of a disk was noted, of which the changes before it were known, the moment before it is known too.
pub moments_noted : (m : Medium) (c : Change) (changes : List Change) (text : List ℕ) → text_before c text ≡ m.text
    → c.end ≡ length m.synced → c.pending ≡ m.pending
    → moments_before m.text changes ≡ m.past → moments_before text (changes_after c changes) ≡ past_after c.range.size m
moments_noted m c changes text back end pending past = go (nat_lt KEPT_BYTES c.range.size)
  where
    go : (large : Bool)
        → moments_before text (if large then [] else take KEPT_CALLS (c ∷ changes)) ≡ (if large then [] else take KEPT_CALLS (moment_of m ∷ m.past))
    go true = refl
    go false =
        moments_take text KEPT_CALLS (c ∷ changes)
        ∙ (λ i. take KEPT_CALLS (record { text = back i; end = end i; pending = pending i } ∷ moments_before (back i) changes))
        ∙ ap (λ (l : List Moment). take KEPT_CALLS (moment_of m ∷ l)) past
