-- What one record more does to the counts that are kept beside the records.
use Rattle.std.proofs.Common.{◌≡◌, ℕ, zero, suc, ◌+◌, Bool, true, false, cond, List, [], ◌∷◌, ◌++◌, ◌<◌, length, refl, ap, sym, ◌∙◌, arith}
use Rattle.std.specs.Prelude.{slice_index_or}
use Rattle.std.specs.List.{count_by, range_with_len}
use Rattle.std.proofs.lemmas.List.{length-append}
use Rattle.std.proofs.lemmas.List.Sums.{sum_by_push}
use Rattle.pv_edits.specs.Edits.{is_of_centre, taken_of}
use Rattle.pv_edits.specs.Standing.{with_record_at}
use Rattle.pv_edits.specs.declared.base.Base.{Base}
use Rattle.pv_edits.specs.declared.record.Record.{Record}
use Rattle.pv_outside.specs.declared.limits.Limits.{Limits}
use Rattle.pv_udc.specs.Counts.{counted_on}
use Rattle.pv_udc.specs.EditList.{all_places}
use Rattle.pv_udc.specs.Charges.{AreChargesOf}
use Rattle.pv_udc.specs.Keeping.{IsKeptList}
use Rattle.pv_udc.specs.ReplyPlaces.{ArePlacesOf}
use Rattle.pv_udc.specs.declared.charges.Charges.{Charges}
use Rattle.pv_udc.specs.declared.replies.ReplyPlaces.{ReplyPlaces}

-- one number more
pub range_with_len-push : (a n : ℕ) → range_with_len a (suc n) ≡ range_with_len a n ++ (a + n) ∷ []
range_with_len-push a zero = ap (λ b. b ∷ []) (omega arith)
range_with_len-push a (suc n) = ap (λ l. a ∷ l) (range_with_len-push (a + 1) n ∙ ap (λ b. range_with_len (a + 1) n ++ b ∷ []) (omega arith))

-- one more if the test holds
added : (test : Bool) (n : ℕ) → n + cond test 1 0 ≡ counted_on test n
added true n = refl
added false n = omega arith

-- one element more that is counted, or is not
pub count_by-push : {X : Type 0} (test : X → Bool) (xs : List X) (x : X)
    → count_by test (xs ++ x ∷ []) ≡ counted_on (test x) (count_by test xs)
count_by-push test xs x = sum_by_push (λ y. cond (test y) 1 0) xs x ∙ added (test x) (count_by test xs)

pub taken_of-push : (records : List Record) (edit : Record) (centre : ℕ)
    → taken_of (records ++ edit ∷ []) centre ≡ counted_on (is_of_centre centre edit) (taken_of records centre)
taken_of-push records edit centre = count_by-push (is_of_centre centre) records edit

-- the places of one record more
pub all_places-push : (records : List Record) (edit : Record)
    → all_places (records ++ edit ∷ []) ≡ all_places records ++ length records ∷ []
all_places-push records edit =
    let more : length (records ++ edit ∷ []) ≡ suc (length records) = omega (arith, length-append records (edit ∷ [])) in
    let last : 0 + length records ≡ length records = omega arith in
    ap (range_with_len 0) more ∙ range_with_len-push 0 (length records) ∙ ap (λ place. all_places records ++ place ∷ []) last

-- what is kept beside a base goes on when the base takes in a record
pub IsKeptList-push : (base : Base) (limits : Limits) (count : ℕ) (counts more : List ℕ) (charges also : Charges)
    (replies further : ReplyPlaces) (edit : Record) → IsKeptList base limits count counts charges replies → count < limits.records
    → ((centre : ℕ) → slice_index_or more centre 0 ≡ counted_on (is_of_centre centre edit) (slice_index_or counts centre 0))
    → AreChargesOf also limits.records (base.records ++ edit ∷ [])
    → ArePlacesOf further limits.records (base.records ++ edit ∷ [])
    → IsKeptList (with_record_at base edit count) limits (count + 1) more also further
IsKeptList-push base limits count counts more charges also replies further edit is within on charged replied = record {
  same_limits = is.same_limits;
  in_order = ap (λ l. l ++ count ∷ []) is.in_order ∙ ap (λ n. all_places base.records ++ n ∷ []) is.counted
      ∙ sym (all_places-push base.records edit);
  counted = omega (arith, is.counted, length-append base.records (edit ∷ []));
  within = omega (arith, within);
  taken_up = λ centre. on centre ∙ ap (counted_on (is_of_centre centre edit)) (is.taken_up centre)
      ∙ sym (taken_of-push base.records edit centre);
  charged = charged;
  replied = replied;
}
