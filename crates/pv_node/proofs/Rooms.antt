-- That each record of a list has room, once one more is there.
use Rattle.std.proofs.Common.{◌≡◌, ◌⊎◌, inl, inr, ◌<◌, List, [], ◌∷◌, ◌++◌, length, get_or, drop, refl, sym, ◌∙◌, ap, arith, length-append, rules}
use Rattle.std.proofs.lemmas.List.{length_push}
use Rattle.pv_outside.specs.declared.limits.Limits.{Limits}
use Rattle.pv_node.specs.declared.rules.Rules as rules
use Rattle.pv_node.specs.Standing.{Meets}

-- the empty list has no element between two others
not_empty : {X : Type 0} (before : List X) (x : X) (behind : List X) → [] ≡ before ++ x ∷ behind → ⊥
not_empty before x behind e = omega (arith, ap length e, length-append before (x ∷ behind))

-- an element of a list that was pushed to is the one that was pushed, after all others, or was there before
pub of_push : {X : Type 0} (xs : List X) (y : X) (before : List X) (x : X) (behind : List X) → xs ++ y ∷ [] ≡ before ++ x ∷ behind
    → ((before ≡ xs) × (x ≡ y)) ⊎ ((rest : List X) × (xs ≡ before ++ x ∷ rest))
of_push [] y [] x behind e = inl (refl, ap (λ l. get_or l 0 x) (sym e))
of_push [] y (b ∷ before) x behind e = absurd (not_empty before x behind (ap (drop 1) e))
of_push (z ∷ xs) y [] x behind e = inr (xs, ap (λ w. w ∷ xs) (ap (λ l. get_or l 0 x) e))
of_push {X = X} (z ∷ xs) y (b ∷ before) x behind e =
    under (of_push xs y before x behind (ap (drop 1) e))
  where
    same : z ≡ b
    same = ap (λ l. get_or l 0 z) e

    under : ((before ≡ xs) × (x ≡ y)) ⊎ ((rest : List X) × (xs ≡ before ++ x ∷ rest))
        → ((b ∷ before ≡ z ∷ xs) × (x ≡ y)) ⊎ ((rest : List X) × (z ∷ xs ≡ b ∷ (before ++ x ∷ rest)))
    under (inl last) = inl (ap (λ l. b ∷ l) last.0 ∙ ap (λ w. w ∷ xs) (sym same), last.1)
    under (inr there) = inr (there.0, ap (λ w. w ∷ xs) same ∙ ap (λ l. b ∷ l) there.1)

module _ {S State Request Rec Reply : Type 0} (r : rules.Ghosts S State Request Rec Reply) where
  -- records that meet the limits, and one more that has room, meet them together where they were fewer than the limit
  pub meets_more : (same_room : (one other : State) (records : List Rec) (rec : Rec) → r.stands one records → r.stands other records → r.limits_of one ≡ r.limits_of other → r.fits one rec → r.fits other rec)
      (limits : Limits) (state : State) (records : List Rec) (rec : Rec) → Meets r limits records → r.stands state records
      → r.limits_of state ≡ limits → r.fits state rec → length records < limits.records
      → Meets r limits (records ++ rec ∷ [])
  meets_more same_room limits state records rec meets stands is_limit fits below = search (rules, length_push, of_push)

  -- no records meet any limits
  pub meets_none : (limits : Limits) → Meets r limits []
  meets_none limits = search (rules, not_empty)
