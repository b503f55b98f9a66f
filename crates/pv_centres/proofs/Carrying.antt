-- What is carried between the Update Centre and a centre, and that it stays so while other centres are served.
use Rattle.std.proofs.Common.{◌≡◌, ℕ, suc, ◌+◌, ◌≤◌, Bool, true, false, cond, List, [], ◌∷◌, ◌++◌, length, map, drop, Option, Some, None, inl, inr, refl, ap, sym, ◌∙◌, arith, length-append}
use Rattle.std.specs.Prelude.{◌||◌, IfSome, IsTrue}
use Rattle.std.specs.List.{enumerate_from, filter_map}
use Rattle.std.proofs.lemmas.List.{drop-drop, drop_at, drop-map, length-map}
use Rattle.std.proofs.lemmas.List.Elements.{filter_map-append}
use Rattle.std.proofs.lemmas.List.Sums.{sum_by-append}
use Rattle.pv_outside.specs.declared.limits.Limits.{Limits}
use Rattle.pv_outside.specs.declared.reports.Reports as reports
use Rattle.pv_post.specs.declared.item.Item.{Item}
use Rattle.pv_edits.specs.Edits.{is_of_centre, taken_of}
use Rattle.pv_edits.specs.declared.record.Record.{Record}
use Rattle.pv_edits.specs.declared.down.DownRecord.TheVariants.{Whole, Blank}
use Rattle.pv_node.specs.Asking.{records_with}
use Rattle.pv_node.specs.Parts.{Parts}
use Rattle.pv_node.specs.Standing.{MeetsBoth, StandsFor}
use Rattle.pv_node.specs.declared.rules.Rules as rules
use Rattle.pv_udc.specs.EditList.{EditList}
use Rattle.pv_irc.specs.Deciding.{centre_has_room}
use Rattle.pv_irc.specs.History.{CentreState, applied_in, applied_of, with_centre_record}
use Rattle.pv_irc.specs.declared.record.CentreRecord.{CentreRecord}
use Rattle.pv_irc.specs.declared.record.CentreRecord.TheVariants.{Applied, LogOn, Kept, Removed}
use Rattle.pv_closing.specs.Bringing.{EndsBringing, IsNoRoom, settled_state}
use Rattle.pv_closing.specs.Lacking.{lacked_items, apply_record, apply_records, lacked_records}
use Rattle.pv_closing.specs.declared.rest_end.RestEnd.{RestEnd}
use Rattle.pv_closing.specs.declared.rest_end.RestEnd.TheVariants.{Brought, Full, NoRoom, DiskFault}
use Rattle.pv_centres.specs.Ends.{rest_end, is_room_end}
use Rattle.pv_centres.specs.Parts.{IfThere}
use Rattle.pv_centres.specs.Rest.{AddsRecords, TakesItems, AppliesList, AppliesFrom, AreCarried}

-- it is noted now
noted_now : (noted : Bool) → (noted || true) ≡ true
noted_now true = refl
noted_now false = refl

-- what was noted stays so
pub still_noted : (before later : Bool) → before ≡ true → (before || later) ≡ true
still_noted true later is = refl
still_noted false later is = absurd cc

-- a node has no more records than its limit
module _ {S State Request Rec Reply : Type 0} (r : rules.Ghosts S State Request Rec Reply) where
  within : (limits : Limits) (records : List Rec) (hand : Option Rec) → MeetsBoth r limits records hand → length records ≤ limits.records
  within limits records None meets = meets.count
  within limits records (Some rec) meets = meets.0.count

-- ---- the Update Centre

module _ {S Request Reply D : Type 0} (u : rules.Ghosts S EditList Request Record Reply) (g : reports.Ghosts D)
    (limits_are : (list : EditList) → u.limits_of list ≡ list.limits)
    (stood : (list : EditList) (edits : List Record) → u.stands list edits → list.records ≡ edits) where
  -- it has taken up the items of a centre
  pub has_taken : {F : Type 0} (old new : Parts D EditList Record) (centre : ℕ) (items : List Item) (noted : Bool) (end : RestEnd D F)
      → EndsBringing u g old new (lacked_items centre items) end → (IsNoRoom end → ⊥)
      → (end ≡ Brought → length items ≤ taken_of new.state.records centre) → rest_end end ≡ None
      → TakesItems (noted || is_room_end end) centre items new
  has_taken old new centre items noted Brought ends room all none = inl (all refl)
  has_taken old new centre items noted (Full count) (inl unsettled) room all none = absurd unsettled.1
  has_taken old new centre items noted (Full count) (inr some) room all none =
      let why = some.1.why in
      inr (noted_now noted, why.1 ∙ why.2 ∙ ap (λ (l : Limits). l.records) (limits_are new.state))
  has_taken old new centre items noted NoRoom ends room all none = absurd (room tt)
  has_taken old new centre items noted (DiskFault failure) ends room all none = absurd cc

  -- with more records it still has
  taken_stays : (mid new : Parts D EditList Record) (centre : ℕ) (items : List Item) (noted later : Bool) → AddsRecords u g mid new
      → (edits : List Record) → StandsFor u g mid edits → (noted ≡ true → later ≡ true) → TakesItems noted centre items mid
      → TakesItems later centre items new
  taken_stays mid new centre items noted later adds edits stands still (inl all) =
      let more = adds.stands edits stands in
      let was : taken_of mid.state.records centre ≡ taken_of edits centre =
      ap (λ (l : List Record). taken_of l centre) (stood mid.state edits stands.state) in
      let is : taken_of new.state.records centre ≡ taken_of (edits ++ more.0) centre =
      ap (λ (l : List Record). taken_of l centre) (stood new.state (edits ++ more.0) more.1.state) in
      inl (omega (arith, all, was, is, sum_by-append (λ (e : Record). cond (is_of_centre centre e) 1 0) edits more.0))
  taken_stays mid new centre items noted later adds edits stands still (inr full) =
      let more = adds.stands edits stands in
      let count : Limits → ℕ = λ (l : Limits). l.records in
      let most = within u (u.limits_of new.state) (edits ++ more.0) new.hand more.1.meets in
      inr (
        still full.0,
        omega (
          arith,
          full.1,
          stands.count,
          more.1.count,
          most,
          length-append edits more.0,
          ap count adds.limits,
          ap count (limits_are mid.state),
          ap count (limits_are new.state),
        ),
      )

  -- so it is of a centre, if the network has it
  pub taken_later : (old mid new : Parts D EditList Record) (centre : ℕ) (from : Option (Parts D CentreState CentreRecord))
      (noted later : Bool) → AddsRecords u g old mid → AddsRecords u g mid new → (noted ≡ true → later ≡ true)
      → IfSome from (λ n. TakesItems noted centre n.state.items mid)
      → (edits : List Record) → StandsFor u g old edits → IfSome from (λ n. TakesItems later centre n.state.items new)
  taken_later old mid new centre None noted later before after still taken edits stands = tt
  taken_later old mid new centre (Some n) noted later before after still taken edits stands =
      let at = before.stands edits stands in
      taken_stays mid new centre n.state.items noted later after (edits ++ at.0) at.1 still taken

-- ---- how many records a centre has applied

applied-append : (xs ys : List CentreRecord) → applied_of (xs ++ ys) ≡ applied_of xs + applied_of ys
applied-append xs ys =
    ap length (filter_map-append applied_in xs ys) ∙ length-append (filter_map applied_in xs) (filter_map applied_in ys)

-- one record more is one of these, or it is not
applied_one : (state : CentreState) (rec : CentreRecord) → (with_centre_record state rec).applied ≡ state.applied + applied_of (rec ∷ [])
applied_one state (Applied n (Whole edit)) = refl
applied_one state (Applied n Blank) = refl
applied_one state (LogOn account) = omega arith
applied_one state (Kept item) = omega arith
applied_one state (Removed account number) = omega arith

-- no more than there are records
applied_within : (xs : List CentreRecord) → applied_of xs ≤ length xs
applied_within [] = omega arith
applied_within (Applied n rec ∷ xs) = omega (arith, applied_within xs)
applied_within (LogOn account ∷ xs) = omega (arith, applied_within xs)
applied_within (Kept item ∷ xs) = omega (arith, applied_within xs)
applied_within (Removed account number ∷ xs) = omega (arith, applied_within xs)

-- each of what is lacked is one
applied_each : (pairs : List (ℕ × Record)) → applied_of (map (λ (x : ℕ × Record). apply_record x.0 x.1) pairs) ≡ length pairs
applied_each [] = refl
applied_each (x ∷ pairs) = ap suc (applied_each pairs)

module _ (edits : List Record) (state : CentreState) (before later : List CentreRecord)
    (lacked : lacked_records edits state ≡ before ++ later) where
  applied_first : applied_of before ≡ length before
  applied_first =
      let f = λ (x : ℕ × Record). apply_record x.0 x.1 in
      let rest = drop state.applied (enumerate_from 0 edits) in
      let form : before ++ later ≡ map f rest = sym lacked ∙ drop-map f state.applied (enumerate_from 0 edits) in
      omega (
        arith,
        ap applied_of form,
        applied_each rest,
        ap length form,
        length-map rest f,
        applied-append before later,
        length-append before later,
        applied_within before,
        applied_within later,
      )

  -- once the first of it are applied, the others are lacked
  lacked_after : (now : CentreState) → now.applied ≡ state.applied + length before → lacked_records edits now ≡ later
  lacked_after now grown =
      ap (λ (n : ℕ). drop n (apply_records edits)) grown
      ∙ sym (drop-drop (length before) state.applied (apply_records edits))
      ∙ ap (λ (l : List CentreRecord). drop (length before) l) lacked
      ∙ drop_at before later (length before) refl

-- ---- a centre

module _ {S Request Reply D : Type 0} (r : rules.Ghosts S CentreState Request CentreRecord Reply) (g : reports.Ghosts D)
    (limits_are : (state : CentreState) → r.limits_of state ≡ state.limits)
    (stood : (state : CentreState) (records : List CentreRecord) → r.stands state records → state.applied ≡ applied_of records)
    (after : (state : CentreState) (rec : CentreRecord) (place : ℕ) → r.after state rec place ≡ with_centre_record state rec)
    (fits : (state : CentreState) (rec : CentreRecord) → IsTrue (centre_has_room state rec) → r.fits state rec) where
  pub settled_applied : (old : Parts D CentreState CentreRecord) (records : List CentreRecord) (found : Option CentreRecord)
      → r.stands old.state records → (settled_state r old found).applied ≡ applied_of (records_with records found)
  settled_applied old records None stands = stood old.state records stands
  settled_applied old records (Some rec) stands =
      ap (λ (s : CentreState). s.applied) (after old.state rec old.journal.count) ∙ applied_one old.state rec
      ∙ ap (λ (n : ℕ). n + applied_of (rec ∷ [])) (stood old.state records stands) ∙ sym (applied-append records (rec ∷ []))

  -- it has applied the edit list
  pub applies : {F : Type 0} (old new : Parts D CentreState CentreRecord) (edits : List Record) (noted : Bool) (end : RestEnd D F)
      → EndsBringing r g old new (lacked_records edits) end → (end ≡ Brought → length edits ≤ new.state.applied) → rest_end end ≡ None
      → AppliesFrom r g (noted || is_room_end end) edits old new
  applies old new edits noted Brought ends all none records stands = inl (all refl)
  applies old new edits noted (Full count) (inl unsettled) all none records stands = absurd unsettled.1
  applies old new edits noted (Full count) (inr some) all none records stands =
      let why = some.1.why in
      inr (noted_now noted, inl (why.1 ∙ why.2 ∙ ap (λ (l : Limits). l.records) (limits_are new.state)))
  applies old new edits noted NoRoom (inl unsettled) all none records stands = absurd unsettled.1
  applies old new edits noted NoRoom (inr some) all none records stands =
      let had = records_with records some.0 in
      let part = some.1 in
      let settled = settled_state r old some.0 in
      let now = part.added.stands records stands in
      let grown : new.state.applied ≡ settled.applied + length part.before = omega (
        arith,
        stood new.state (had ++ part.before) now.state,
        applied-append had part.before,
        settled_applied old records some.0 stands.state,
        applied_first edits settled part.before (part.next ∷ part.after) part.lacked_is,
      ) in
      inr (
        noted_now noted,
        inr (record {
          next = part.next;
          later = part.after;
          lacked = lacked_after edits settled part.before (part.next ∷ part.after) part.lacked_is new.state grown;
          no_room = λ room. part.why.1 (fits new.state part.next room);
        }),
      )
  applies old new edits noted (DiskFault failure) ends all none records stands = absurd cc

-- it still has, once more was noted
applied_stays : {D : Type 0} (new : Parts D CentreState CentreRecord) (edits : List Record) (noted later : Bool)
    → (noted ≡ true → later ≡ true) → AppliesList noted edits new → AppliesList later edits new
applied_stays new edits noted later still (inl all) = inl all
applied_stays new edits noted later still (inr why) = inr (still why.0, why.1)

module _ {S Request Reply D : Type 0} (r : rules.Ghosts S CentreState Request CentreRecord Reply) (g : reports.Ghosts D) where
  -- so it is of a centre, if the network has it
  pub applies_later : (old new : Option (Parts D CentreState CentreRecord)) (edits : List Record) (noted later : Bool)
      → (noted ≡ true → later ≡ true) → IfThere (AppliesFrom r g noted edits) old new → IfThere (AppliesFrom r g later edits) old new
  applies_later None None edits noted later still there = tt
  applies_later (Some old) (Some new) edits noted later still there =
      λ records stands. applied_stays new edits noted later still (there records stands)
  applies_later None (Some new) edits noted later still there = absurd there
  applies_later (Some old) None edits noted later still there = absurd there

  -- both are carried
  module _ {T UdcRequest UdcReply : Type 0} (u : rules.Ghosts T EditList UdcRequest Record UdcReply) where
    pub carried : (update_old update_new : Parts D EditList Record) (centre : ℕ) (old new : Option (Parts D CentreState CentreRecord))
        (noted later : Bool) → (noted ≡ true → later ≡ true)
        → ((edits : List Record) → StandsFor u g update_old edits → IfSome old (λ n. TakesItems noted centre n.state.items update_new))
        → IfThere (AppliesFrom r g later update_new.state.records) old new
        → IfThere (AreCarried u r g later centre update_old update_new) old new
    carried update_old update_new centre None None noted later still up down = tt
    carried update_old update_new centre (Some old) (Some new) noted later still up down =
        λ edits stands records stood. (noted_later (up edits stands), down records stood)
      where
        noted_later : TakesItems noted centre old.state.items update_new → TakesItems later centre old.state.items update_new
        noted_later (inl all) = inl all
        noted_later (inr full) = inr (still full.0, full.1)
    carried update_old update_new centre None (Some new) noted later still up down = absurd down
    carried update_old update_new centre (Some old) None noted later still up down = absurd down
