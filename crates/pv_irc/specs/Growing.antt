-- What one record more does to a centre's state.
use Rattle.std.proofs.Common.{◌≡◌, ℕ, suc, ◌+◌, cond, List, [], ◌∷◌, ◌++◌, length, refl, ap, sym, ◌∙◌, append_assoc, append-nil, arith}
use Rattle.std.proofs.lemmas.List.{length-append}
use Rattle.std.proofs.lemmas.List.Elements.{filter_map-append}
use Rattle.std.proofs.lemmas.List.Sums.{sum_by_push, sum_by-cons}
use Rattle.pv_outside.specs.declared.limits.Limits.{Limits}
use Rattle.pv_post.specs.declared.removal.Removal.{Removal}
use Rattle.pv_post.specs.declared.item.Item.{Item}
use Rattle.pv_edits.specs.declared.down.DownRecord.{DownRecord}
use Rattle.pv_edits.specs.declared.down.DownRecord.TheVariants.{Whole, Blank}
use Rattle.pv_irc.specs.History.{applied_in, kept_in, is_log_on, applied_records, applied_of, items_of, log_ons_of, removals_after, removals_of, whole_in, whole_records, place_if_whole, whole_places, CentreState, centre_state_of, state_count, with_down, with_centre_record}
use Rattle.pv_irc.specs.declared.record.CentreRecord.{CentreRecord}
use Rattle.pv_irc.specs.declared.record.CentreRecord.TheVariants.{Applied, LogOn, Kept, Removed}

-- the places of one thing more that came down
pub whole_places-push : (first : ℕ) (downs : List DownRecord) (down : DownRecord)
    → whole_places first (downs ++ down ∷ []) ≡ whole_places first downs ++ place_if_whole (first + length downs) down
whole_places-push first [] down =
    let here : first ≡ first + 0 = omega arith in
    append-nil (place_if_whole first down) ∙ ap (λ place. place_if_whole place down) here
whole_places-push first (one ∷ downs) down =
    let there : first + 1 + length downs ≡ first + suc (length downs) = omega arith in
    ap (λ places. place_if_whole first one ++ places)
    (whole_places-push (first + 1) downs down ∙ ap (λ place. whole_places (first + 1) downs ++ place_if_whole place down) there)
    ∙ sym (append_assoc (place_if_whole first one) (whole_places (first + 1) downs) (place_if_whole (first + suc (length downs)) down))

-- a list with none more
same_list : {X : Type 0} (xs : List X) → xs ++ [] ≡ xs
same_list xs = append-nil xs

-- the count of log-ons
log_ons-push : (records : List CentreRecord) (rec : CentreRecord)
    → log_ons_of (records ++ rec ∷ []) ≡ log_ons_of records + cond (is_log_on rec) 1 0
log_ons-push records rec = sum_by_push (λ r. cond (is_log_on r) 1 0) records rec

-- ---- the removals

-- the removal in a record that is stored when this many were applied
abbrev removal_in : ℕ → CentreRecord → List Removal
removal_in applied (Applied n rec) = []
removal_in applied (LogOn account) = []
removal_in applied (Kept item) = []
removal_in applied (Removed account number) = record { account = account; number = number; place = applied } ∷ []

-- one record more
removals-push : (applied : ℕ) (records : List CentreRecord) (rec : CentreRecord)
    → removals_after applied (records ++ rec ∷ []) ≡ removals_after applied records ++ removal_in (applied + applied_of records) rec
removals-push applied [] (Applied n down) = refl
removals-push applied [] (LogOn account) = refl
removals-push applied [] (Kept item) = refl
removals-push applied [] (Removed account number) =
    let same : applied ≡ applied + 0 = omega arith in
    λ i. record { account = account; number = number; place = same i } ∷ []
removals-push applied (Applied n down ∷ records) rec =
    let same : applied + 1 + applied_of records ≡ applied + suc (applied_of records) = omega arith in
    removals-push (applied + 1) records rec ∙ ap (λ place. removals_after (applied + 1) records ++ removal_in place rec) same
removals-push applied (LogOn account ∷ records) rec = removals-push applied records rec
removals-push applied (Kept item ∷ records) rec = removals-push applied records rec
removals-push applied (Removed account number ∷ records) rec =
    ap (λ later. record { account = account; number = number; place = applied } ∷ later) (removals-push applied records rec)

-- ---- the state

module _ (centre : ℕ) (limits : Limits) where
  -- the state with these parts
  abbrev state_with : List DownRecord → List Item → ℕ → List Removal → CentreState
  state_with downs items log_ons removals = record {
    centre = centre;
    limits = limits;
    applied = length downs;
    edits = whole_records downs;
    places = whole_places 0 downs;
    items = items;
    log_ons = log_ons;
    removals = removals;
  }

  -- one thing more that came down
  applied_more : (down : DownRecord) (items : List Item) (log_ons : ℕ) (removals : List Removal) (downs : List DownRecord)
      → with_down (state_with downs items log_ons removals) down ≡ state_with (downs ++ down ∷ []) items log_ons removals
  applied_more (Whole edit) items log_ons removals downs =
      let more : length downs + 1 ≡ length (downs ++ Whole edit ∷ []) = omega (arith, length-append downs (Whole edit ∷ [])) in
      let edits : whole_records downs ++ edit ∷ [] ≡ whole_records (downs ++ Whole edit ∷ []) =
      sym (filter_map-append whole_in downs (Whole edit ∷ [])) in
      let places : whole_places 0 downs ++ length downs ∷ [] ≡ whole_places 0 (downs ++ Whole edit ∷ []) =
      ap (λ place. whole_places 0 downs ++ place ∷ []) (omega arith) ∙ sym (whole_places-push 0 downs (Whole edit)) in
      λ i. record {
        centre = centre;
        limits = limits;
        applied = more i;
        edits = edits i;
        places = places i;
        items = items;
        log_ons = log_ons;
        removals = removals;
      }
  applied_more Blank items log_ons removals downs =
      let more : length downs + 1 ≡ length (downs ++ Blank ∷ []) = omega (arith, length-append downs (Blank ∷ [])) in
      let edits : whole_records downs ≡ whole_records (downs ++ Blank ∷ []) =
      sym (filter_map-append whole_in downs (Blank ∷ []) ∙ same_list (whole_records downs)) in
      let places : whole_places 0 downs ≡ whole_places 0 (downs ++ Blank ∷ []) =
      sym (whole_places-push 0 downs Blank ∙ same_list (whole_places 0 downs)) in
      λ i. record {
        centre = centre;
        limits = limits;
        applied = more i;
        edits = edits i;
        places = places i;
        items = items;
        log_ons = log_ons;
        removals = removals;
      }

  -- the lists and the count that a record adds to
  same_parts : (downs more_downs : List DownRecord) (items more_items : List Item) (log_ons more_log_ons : ℕ)
      (removals more_removals : List Removal) → downs ≡ more_downs → items ≡ more_items → log_ons ≡ more_log_ons → removals ≡ more_removals
      → state_with downs items log_ons removals ≡ state_with more_downs more_items more_log_ons more_removals
  same_parts downs more_downs items more_items log_ons more_log_ons removals more_removals same also so too =
      λ i. state_with (same i) (also i) (so i) (too i)

  -- the state of one record more
  pub grown : (records : List CentreRecord) (rec : CentreRecord) → with_centre_record (centre_state_of centre limits records) rec
      ≡ centre_state_of centre limits (records ++ rec ∷ [])
  grown records (Applied n down) =
      applied_more down (items_of records) (log_ons_of records) (removals_of records) (applied_records records)
      ∙ same_parts _ _ _ _ _ _ _ _ (sym (filter_map-append applied_in records (Applied n down ∷ [])))
      (sym (filter_map-append kept_in records (Applied n down ∷ []) ∙ same_list (items_of records)))
      (sym (log_ons-push records (Applied n down) ∙ omega arith))
      (sym (removals-push 0 records (Applied n down) ∙ same_list (removals_of records)))
  grown records (LogOn account) =
      same_parts _ _ _ _ _ _ _ _ (sym (filter_map-append applied_in records (LogOn account ∷ []) ∙ same_list (applied_records records)))
      (sym (filter_map-append kept_in records (LogOn account ∷ []) ∙ same_list (items_of records)))
      (sym (log_ons-push records (LogOn account)))
      (sym (removals-push 0 records (LogOn account) ∙ same_list (removals_of records)))
  grown records (Kept item) =
      same_parts _ _ _ _ _ _ _ _ (sym (filter_map-append applied_in records (Kept item ∷ []) ∙ same_list (applied_records records)))
      (sym (filter_map-append kept_in records (Kept item ∷ [])))
      (sym (log_ons-push records (Kept item) ∙ omega arith))
      (sym (removals-push 0 records (Kept item) ∙ same_list (removals_of records)))
  grown records (Removed account number) =
      same_parts _ _ _ _ _ _ _ _
      (sym (filter_map-append applied_in records (Removed account number ∷ []) ∙ same_list (applied_records records)))
      (sym (filter_map-append kept_in records (Removed account number ∷ []) ∙ same_list (items_of records)))
      (sym (log_ons-push records (Removed account number) ∙ omega arith))
      (sym (removals-push 0 records (Removed account number)
      ∙ ap (λ place. removals_of records ++ removal_in place (Removed account number))
      (omega arith)))

-- one record more is counted
pub record_count-with : (state : CentreState) (rec : CentreRecord)
    → state_count (with_centre_record state rec) ≡ state_count state + 1
record_count-with state (Applied n (Whole edit)) = omega arith
record_count-with state (Applied n Blank) = omega arith
record_count-with state (LogOn account) = omega arith
record_count-with state (Kept item) = omega (arith, length-append state.items (item ∷ []))
record_count-with state (Removed account number) =
    let removal : Removal = record { account = account; number = number; place = state.applied } in
    omega (arith, length-append state.removals (removal ∷ []))

-- the limits stay
pub limits-with : (state : CentreState) (rec : CentreRecord) → (with_centre_record state rec).limits ≡ state.limits
limits-with state (Applied n (Whole edit)) = refl
limits-with state (Applied n Blank) = refl
limits-with state (LogOn account) = refl
limits-with state (Kept item) = refl
limits-with state (Removed account number) = refl

-- each record is counted once
log_ons-cons : (rec : CentreRecord) (records : List CentreRecord)
    → log_ons_of (rec ∷ records) ≡ cond (is_log_on rec) 1 0 + log_ons_of records
log_ons-cons rec records = sum_by-cons (λ r. cond (is_log_on r) 1 0) rec records

-- how many records there are of each kind, the removals of a list before which this many were applied
abbrev count_after : ℕ → List CentreRecord → ℕ
count_after applied records = applied_of records + length (items_of records) + log_ons_of records + length (removals_after applied records)

counted_after : (applied : ℕ) (records : List CentreRecord) → count_after applied records ≡ length records
counted_after applied [] = refl
counted_after applied (Applied n down ∷ records) =
    omega (arith, log_ons-cons (Applied n down) records, counted_after (applied + 1) records)
counted_after applied (LogOn account ∷ records) = omega (arith, log_ons-cons (LogOn account) records, counted_after applied records)
counted_after applied (Kept item ∷ records) = omega (arith, log_ons-cons (Kept item) records, counted_after applied records)
counted_after applied (Removed account number ∷ records) =
    omega (arith, log_ons-cons (Removed account number) records, counted_after applied records)

pub counted_state : (centre : ℕ) (limits : Limits) (records : List CentreRecord)
    → state_count (centre_state_of centre limits records) ≡ length records
counted_state centre limits records = counted_after 0 records
