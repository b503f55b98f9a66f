-- A node is brought what it lacks, record by record: how far that is, and where it stops.
use Rattle.std.proofs.Common.{◌≡◌, ◌⊎◌, inl, inr, ℕ, suc, ◌≤◌, List, [], ◌∷◌, ◌++◌, length, take, Option, Some, None, refl, sym, ap, subst, ◌∙◌}
use Rattle.std.proofs.Common.{arith, append_assoc}
use Rattle.std.proofs.lemmas.List.{append-nil}
use Rattle.std.proofs.Math.Seq.{take-append_seam}
use Rattle.pv_outside.specs.Counts.{Rose}
use Rattle.pv_outside.specs.declared.failed.TheConstants.{COUNT_END}
use Rattle.pv_outside.specs.declared.reports.Reports as reports
use Rattle.pv_journal.specs.Journal.{EachImage, LeavesOnly}
use Rattle.pv_journal.proofs.Moments.{only_none, only_weaker, only_then}
use Rattle.pv_node.specs.Asking.{IsSettled, HasStored, records_with}
use Rattle.pv_node.specs.Parts.{Parts}
use Rattle.pv_node.specs.Standing.{Stands, StandsEither, StandsFor, KeepsAll}
use Rattle.pv_node.specs.declared.rules.Rules as rules
use Rattle.pv_closing.specs.Bringing.{settled_state, IsAskStop, LeavesNext, IsFoundInHand, HasAdded, StopsAt, IsBroughtSome, IsBroughtTo, LeavesFirst, LeavesBrought, EndsBringing, StandsBrought}
use Rattle.pv_closing.specs.declared.rest_end.RestEnd.{RestEnd}
use Rattle.pv_closing.specs.declared.rest_end.RestEnd.TheVariants.{Brought, Full, NoRoom, DiskFault}
use Rattle.pv_closing.proofs.Lists.{take_with_next}

-- a count that rose since it was higher rose
rose_since : (first before now : ℕ) → first ≤ before → Rose before now → Rose first now
rose_since first before now counted rose = omega (arith, counted, rose)

module _ {S State Request Rec Reply D : Type 0} (r : rules.Ghosts S State Request Rec Reply) (g : reports.Ghosts D) where
  -- ---- record by record

  module _ (old : Parts D State Rec) (lacked : List Rec) where
    -- how far it is: these are still to come
    pub record IsGoing (now : Parts D State Rec) (left : List Rec) : Type 0 where
      pub before : List Rec
      pub lacked_is : lacked ≡ before ++ left
      pub stands : (records : List Rec) → StandsFor r g old records → StandsFor r g now (records ++ before)
      pub moments : LeavesFirst r g old now lacked
      pub hand : now.hand ≡ None
      pub counted : g.faults old.journal.disk ≤ g.faults now.journal.disk

    -- nothing was asked for yet
    pub going_first : ((d : D) (image : List ℕ) → g.left_since d (g.clock d) image → g.may_leave d image ⊎ g.has_forgotten d (g.clock d))
        → ((d : D) → g.has_forgotten d (g.clock d) → COUNT_END ≤ g.clock d) → old.hand ≡ None → IsGoing old lacked
    going_first only_now now_is_known none = record {
      before = [];
      lacked_is = refl;
      stands = λ records stands. subst (λ (l : List Rec). StandsFor r g old l) (sym (append-nil records)) stands;
      moments = λ records stands.
          only_weaker g {old = old.journal.disk} {new = old.journal.disk} {P = StandsEither r records None}
          {Q = λ image. (n : ℕ) × Stands r image (records ++ take n lacked)}
          (λ told image is. (0, subst (λ (l : List Rec). Stands r image l) (sym (append-nil records)) is))
          (only_none g only_now now_is_known old.journal.disk (StandsEither r records None)
          (subst (λ (hand : Option Rec). EachImage g old.journal.disk (StandsEither r records hand)) none stands.images));
      hand = none;
      counted = omega arith;
    }

    module _ (now new : Parts D State Rec) (next : Rec) (left : List Rec) (going : IsGoing now (next ∷ left)) where
      -- what there was and what comes next are a prefix of all
      without_next : (records : List Rec) → records ++ going.before ≡ records ++ take (length going.before) lacked
      without_next records =
          ap (λ (l : List Rec). records ++ l)
          (sym (ap (take (length going.before)) going.lacked_is ∙ take-append_seam going.before (next ∷ left)))

      with_next : (records : List Rec) → (records ++ going.before) ++ next ∷ [] ≡ records ++ take (suc (length going.before)) lacked
      with_next records =
          append_assoc records going.before (next ∷ [])
          ∙ ap (λ (l : List Rec). records ++ l)
          (sym (ap (take (suc (length going.before))) going.lacked_is ∙ take_with_next going.before next left))

      -- and so is what a crash leaves
      prefix_left : (records : List Rec) (image : List ℕ) → StandsEither r (records ++ going.before) (Some next) image
          → (n : ℕ) × Stands r image (records ++ take n lacked)
      prefix_left records image (inl stands) =
          (length going.before, subst (λ (l : List Rec). Stands r image l) (without_next records) stands)
      prefix_left records image (inr stands) =
          (suc (length going.before), subst (λ (l : List Rec). Stands r image l) (with_next records) stands)

      -- while the next record is asked for, a crash leaves a prefix
      pub moments_next : LeavesNext r g now new next → LeavesFirst r g old new lacked
      moments_next asked = λ records stands.
          let weaker = only_weaker g {old = now.journal.disk} {new = new.journal.disk}
          {P = StandsEither r (records ++ going.before) (Some next)}
          {Q = λ image. (n : ℕ) × Stands r image (records ++ take n lacked)}
          (λ told image either. prefix_left records image either) (asked (records ++ going.before) (going.stands records stands)) in
          only_then g {first = old.journal.disk} {second = now.journal.disk} {third = new.journal.disk}
          (going.moments records stands) weaker.time weaker.now

      -- it is stored
      pub going_next : HasStored r g now new next → LeavesNext r g now new next
          → g.faults now.journal.disk ≤ g.faults new.journal.disk → IsGoing new left
      going_next stored asked counted = record {
        before = going.before ++ next ∷ [];
        lacked_is = going.lacked_is ∙ sym (append_assoc going.before (next ∷ []) left);
        stands = λ records stands.
            subst (λ (l : List Rec). StandsFor r g new l) (append_assoc records going.before (next ∷ []))
            (stored.records (records ++ going.before) (going.stands records stands));
        moments = moments_next asked;
        hand = stored.hand;
        counted = omega (arith, going.counted, counted);
      }

      -- it is not
      stopped_at : {F : Type 0} (end : RestEnd D F) → HasAdded r g old new None going.before → StopsAt r g old new next end
          → IsBroughtSome r g old new None lacked end
      stopped_at end added why = record {
        before = going.before;
        next = next;
        after = left;
        lacked_is = going.lacked_is;
        added = added;
        why = why;
      }

      -- and what was stored still is
      added_before : ((records : List Rec) → StandsFor r g old records → StandsFor r g new (records ++ going.before))
          → HasAdded r g old new None going.before
      added_before stands = record { of_hand = inl refl; stands = stands }

      added_still : new ≡ now → HasAdded r g old new None going.before
      added_still same = added_before (λ records stands.
          subst (λ (n : Parts D State Rec). StandsFor r g n (records ++ going.before)) (sym same) (going.stands records stands))

      none_still : new ≡ now → new.hand ≡ None
      none_still same = ap (λ (n : Parts D State Rec). n.hand) same ∙ going.hand

      pub going_stopped : {F : Type 0} (end : RestEnd D F) → IsAskStop r g now new next end → IsBroughtTo r g old new None lacked end
      going_stopped Brought stop = absurd stop
      going_stopped {F = F} (Full count) stop = stopped_at {F = F} (Full count) (added_still stop.same) (
        none_still stop.same,
        ap (λ (n : Parts D State Rec). n.journal.count) stop.same ∙ stop.counted,
        stop.limit ∙ ap (λ (n : Parts D State Rec). (r.limits_of n.state).records) (sym stop.same),
      )
      going_stopped {F = F} NoRoom stop = stopped_at {F = F} NoRoom (added_still stop.0) (
        none_still stop.0,
        λ fits. stop.1 (subst (λ (n : Parts D State Rec). r.fits n.state next) stop.0 fits),
      )
      going_stopped {F = F} (DiskFault failure) stop = stopped_at {F = F} (DiskFault failure)
          (added_before (λ records stands. stop.0.records (records ++ going.before) (going.stands records stands)))
          (stop.0.hand, rose_since _ _ _ going.counted stop.1)

    -- nothing is left
    pub going_last : (now : Parts D State Rec) (left : List Rec) → left ≡ [] → IsGoing now left
        → HasAdded r g old now None lacked × (now.hand ≡ None)
    going_last now left none going =
        let all : lacked ≡ going.before =
        going.lacked_is ∙ ap (λ (l : List Rec). going.before ++ l) none ∙ append-nil going.before in (
          record {
            of_hand = inl refl;
            stands = subst (λ (l : List Rec). (records : List Rec) → StandsFor r g old records → StandsFor r g now (records ++ l))
                (sym all) going.stands;
          },
          going.hand,
        )

  -- ---- after a settling

  module _ (old settled : Parts D State Rec) where
    -- a settling finds what was in hand stored, or nothing
    of_hand : (found : Option Rec) → IsSettled r g old settled found → IsFoundInHand old found
    of_hand None is = inl refl
    of_hand (Some rec) is = inr (sym is.was)

    -- so the state is known
    state_is : (found : Option Rec) → IsSettled r g old settled found → settled.state ≡ settled_state r old found
    state_is None is = is.state
    state_is (Some rec) is = is.state

    -- and so are the records
    settled_stands : (found : Option Rec) → IsSettled r g old settled found → (records : List Rec) → StandsFor r g old records
        → StandsFor r g settled (records_with records found)
    settled_stands None is records stands = is.records records stands
    settled_stands (Some rec) is records stands = is.records records stands

    module _ (lacked_at : State → List Rec) where
      -- what a crash leaves in a part of a bringing
      abbrev Left : List Rec → List ℕ → Type 0
      Left records image = (found : Option Rec) × IsFoundInHand old found
          × (n : ℕ) × Stands r image (records_with records found ++ take n (lacked_at (settled_state r old found)))

      -- none of what is lacked is a prefix of it
      none_left : (records : List Rec) (found : Option Rec) (image : List ℕ) → Stands r image (records_with records found)
          → (n : ℕ) × Stands r image (records_with records found ++ take n (lacked_at (settled_state r old found)))
      none_left records found image stands =
          (0, subst (λ (l : List Rec). Stands r image l) (sym (append-nil (records_with records found))) stands)

      -- what was in hand is found or is not
      either_left : (hand : Option Rec) → old.hand ≡ hand → (records : List Rec) (image : List ℕ) → StandsEither r records hand image
          → Left records image
      either_left None is records image stands =
          let left = none_left records None image stands in (None, inl refl, left.0, left.1)
      either_left (Some rec) is records image (inl stands) =
          let left = none_left records None image stands in (None, inl refl, left.0, left.1)
      either_left (Some rec) is records image (inr stands) =
          let left = none_left records (Some rec) image stands in (Some rec, inr (sym is), left.0, left.1)

      -- while what was in hand is settled
      pub settling_leaves : ((records : List Rec) → StandsFor r g old records
          → LeavesOnly g old.journal.disk settled.journal.disk (StandsEither r records old.hand))
          → LeavesBrought r g old settled lacked_at
      settling_leaves moments = λ records stands.
          only_weaker g {old = old.journal.disk} {new = settled.journal.disk} {P = StandsEither r records old.hand} {Q = Left records}
          (λ told image either. either_left old.hand refl records image either) (moments records stands)

      module _ (new : Parts D State Rec) (found : Option Rec) (is : IsSettled r g old settled found) where
        -- and while the rest is brought
        pub bringing_leaves : ((records : List Rec) → StandsFor r g old records
            → LeavesOnly g old.journal.disk settled.journal.disk (StandsEither r records old.hand))
            → LeavesFirst r g settled new (lacked_at settled.state)
            → LeavesBrought r g old new lacked_at
        bringing_leaves settling bringing = λ records stands.
            let now = bringing (records_with records found) (settled_stands found is records stands) in
            let weaker = only_weaker g {old = settled.journal.disk} {new = new.journal.disk}
            {P = λ image. (n : ℕ) × Stands r image (records_with records found ++ take n (lacked_at settled.state))}
            {Q = Left records}
            (λ told image left. (
              found,
              of_hand found is,
              left.0,
              subst (λ (s : State). Stands r image (records_with records found ++ take left.0 (lacked_at s))) (state_is found is) left.1,
            )) now in
            only_then g {first = old.journal.disk} {second = settled.journal.disk} {third = new.journal.disk}
            (settling_leaves settling records stands) weaker.time weaker.now

        -- what was stored was stored after the settling
        added_after : (more : List Rec) → HasAdded r g settled new None more → HasAdded r g old new found more
        added_after more added = record {
          of_hand = of_hand found is;
          stands = λ records stands. added.stands (records_with records found) (settled_stands found is records stands);
        }

        -- and where it stopped, it stopped
        some_after : {F : Type 0} (lacked : List Rec) (end : RestEnd D F) (some : IsBroughtSome r g settled new None lacked end)
            → StopsAt r g old new some.next end → IsBroughtSome r g old new found lacked end
        some_after lacked end some why = record {
          before = some.before;
          next = some.next;
          after = some.after;
          lacked_is = some.lacked_is;
          added = added_after some.before some.added;
          why = why;
        }

        module _ (counted : g.faults old.journal.disk ≤ g.faults settled.journal.disk) where
          brought_after : {F : Type 0} (lacked : List Rec) (end : RestEnd D F) → IsBroughtTo r g settled new None lacked end
              → IsBroughtTo r g old new found lacked end
          brought_after lacked Brought all = (added_after lacked all.0, all.1)
          brought_after {F = F} lacked (Full count) some = some_after {F = F} lacked (Full count) some some.why
          brought_after {F = F} lacked NoRoom some = some_after {F = F} lacked NoRoom some some.why
          brought_after {F = F} lacked (DiskFault failure) some =
              some_after {F = F} lacked (DiskFault failure) some (some.why.0, rose_since _ _ _ counted some.why.1)

          -- how it ends
          pub bringing_ends : {F : Type 0} (end : RestEnd D F) → IsBroughtTo r g settled new None (lacked_at settled.state) end
              → EndsBringing r g old new lacked_at end
          bringing_ends {F = F} end brought = inr (
            found,
            subst (λ (s : State). IsBroughtTo r g old new found (lacked_at s) end) (state_is found is)
                (brought_after {F = F} (lacked_at settled.state) end brought),
          )

  -- ---- however it ends

  module _ (old new : Parts D State Rec) (lacked_at : State → List Rec) where
    -- nothing was stored
    pub stands_kept : KeepsAll r g old new → StandsBrought r g old new lacked_at
    stands_kept keeps = λ records stands.
        (None, inl refl, 0, subst (λ (l : List Rec). StandsFor r g new l) (sym (append-nil records)) (keeps records stands))

    -- these were stored, of what was lacked
    stands_added : (found : Option Rec) (before rest : List Rec) → lacked_at (settled_state r old found) ≡ before ++ rest
        → HasAdded r g old new found before → StandsBrought r g old new lacked_at
    stands_added found before rest is added = λ records stands. (
      found,
      added.of_hand,
      length before,
      subst (λ (l : List Rec). StandsFor r g new (records_with records found ++ l))
          (sym (ap (take (length before)) is ∙ take-append_seam before rest))
          (added.stands records stands),
    )

    brought_stands : {F : Type 0} (found : Option Rec) (end : RestEnd D F)
        → IsBroughtTo r g old new found (lacked_at (settled_state r old found)) end → StandsBrought r g old new lacked_at
    brought_stands found Brought all =
        stands_added found (lacked_at (settled_state r old found)) [] (sym (append-nil (lacked_at (settled_state r old found)))) all.0
    brought_stands found (Full count) some = stands_added found some.before (some.next ∷ some.after) some.lacked_is some.added
    brought_stands found NoRoom some = stands_added found some.before (some.next ∷ some.after) some.lacked_is some.added
    brought_stands found (DiskFault failure) some = stands_added found some.before (some.next ∷ some.after) some.lacked_is some.added

    pub ends_stand : {F : Type 0} (end : RestEnd D F) → EndsBringing r g old new lacked_at end → StandsBrought r g old new lacked_at
    ends_stand end (inl failed) = stands_kept failed.0.records
    ends_stand {F = F} end (inr (found, brought)) = brought_stands {F = F} found end brought
