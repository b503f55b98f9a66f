-- In a list that was judged, an editor's edits have the numbers 1, 2, 3 and on.
use Rattle.std.proofs.Common.{◌≡◌, ℕ, suc, ◌+◌, ◌==◌, Bool, true, false, List, [], ◌∷◌, ◌++◌, length, Some, None, refl, ap, sym, subst, ◌∙◌, append_assoc, arith}
use Rattle.std.proofs.lemmas.List.{append-nil, length-append}
use Rattle.std.proofs.lemmas.List.Elements.{filter_map-append}
use Rattle.std.proofs.lemmas.Bool.{eqb-true}
use Rattle.pv_outside.specs.declared.limits.Limits.{Limits}
use Rattle.pv_fields.specs.Refusals.{first_of}
use Rattle.pv_edits.specs.Edits.{is_edit_of, number_in}
use Rattle.pv_edits.specs.declared.record.Record.{Record}
use Rattle.pv_edits.specs.declared.wish.EditWish.{EditWish}
use Rattle.pv_edits.specs.declared.wish.EditWish.TheVariants.{Put, Drop, Account, Lease}
use Rattle.pv_node.specs.declared.decision.Decision.TheVariants.{Store}
use Rattle.pv_udc.specs.Requests.{edit_of, record_of}
use Rattle.pv_udc.specs.Judgement.{next_number, answers_of, judge}
use Rattle.pv_udc.specs.Numbers.{IsJudgedRun, number_by, numbers_of, from_one}
use Rattle.pv_udc.specs.declared.reply.UdcReply.{UdcReply}
use Rattle.pv_udc.specs.declared.request.UdcRequest.{UdcRequest}
use Rattle.pv_udc.specs.declared.request.UdcRequest.TheVariants.{Edit, TakeUp}
use Rattle.pv_udc.specs.Deciding.{is_stored, is_done, numbered}
use Rattle.pv_udc.proofs.Growing.{range_with_len-push}
use Rattle.pv_udc.proofs.LastEdits.{last_edit-his, last_edit-others}

-- whose edit the record of a wish is, and its number
pub is_edit_of-wish : (editor other q : ℕ) (wish : EditWish) → is_edit_of editor (edit_of other q wish) ≡ (editor == other)
is_edit_of-wish editor other q (Put name frame) = refl
is_edit_of-wish editor other q (Drop name) = refl
is_edit_of-wish editor other q (Account account) = refl
is_edit_of-wish editor other q (Lease root account) = refl

pub number_in-wish : (editor q : ℕ) (wish : EditWish) → number_in (edit_of editor q wish) ≡ Some q
number_in-wish editor q (Put name frame) = refl
number_in-wish editor q (Drop name) = refl
number_in-wish editor q (Account account) = refl
number_in-wish editor q (Lease root account) = refl

module _ (editor : ℕ) where
  -- the editor's numbers are 1, 2, 3 and on, and his next number is the next of these
  record Counts (records : List Record) : Type 0 where
    pub from : numbers_of editor records ≡ from_one (length (numbers_of editor records))
    pub next : next_number records editor ≡ length (numbers_of editor records) + 1

  -- at first there is none
  nothing : Counts []
  nothing = record { from = refl; next = refl }

  -- a record that is not his leaves them as they were
  others : (records : List Record) (edit : Record) → is_edit_of editor edit ≡ false → Counts records → Counts (records ++ edit ∷ [])
  others records edit other counts =
      let none : number_by editor edit ≡ None = rw other refl in
      let same : numbers_of editor (records ++ edit ∷ []) ≡ numbers_of editor records =
      filter_map-append (number_by editor) records (edit ∷ []) ∙ rw none (append-nil (numbers_of editor records)) in
      record {
        from = rw same counts.from;
        next = rw (same, last_edit-others records edit editor other) counts.next;
      }

  -- his next edit has the next number
  his : (records : List Record) (edit : Record) (q : ℕ) → is_edit_of editor edit ≡ true → number_in edit ≡ Some q
      → q ≡ next_number records editor → Counts records → Counts (records ++ edit ∷ [])
  his records edit q is numbered next counts =
      let some : number_by editor edit ≡ Some q = rw is numbered in
      let more : numbers_of editor (records ++ edit ∷ []) ≡ numbers_of editor records ++ q ∷ [] =
      filter_map-append (number_by editor) records (edit ∷ []) ∙ rw some refl in
      let count : length (numbers_of editor records ++ q ∷ []) ≡ suc (length (numbers_of editor records)) =
      omega (arith, length-append (numbers_of editor records) (q ∷ [])) in
      let last : q ≡ 1 + length (numbers_of editor records) = omega (arith, next, counts.next) in
      record {
        from = rw (more, count) (ap (λ l. l ++ q ∷ []) counts.from ∙ ap (λ n. from_one (length (numbers_of editor records)) ++ n ∷ []) last
            ∙ sym (range_with_len-push 1 (length (numbers_of editor records))));
        next = rw (more, count, last_edit-his records edit editor q is numbered) (omega (arith, last));
      }

  -- an edit that is stored, whether it is his or not
  wished : (records : List Record) (other q : ℕ) (wish : EditWish) (test : Bool) → (editor == other) ≡ test
      → q ≡ next_number records other → Counts records → Counts (records ++ edit_of other q wish ∷ [])
  wished records other q wish true is next counts =
      his records (edit_of other q wish) q (is_edit_of-wish editor other q wish ∙ is) (number_in-wish other q wish)
      (next ∙ ap (next_number records) (sym (eqb-true editor other is))) counts
  wished records other q wish false is next counts =
      others records (edit_of other q wish) (is_edit_of-wish editor other q wish ∙ is) counts

  module _ (limits : Limits) where
    -- a record that is stored
    stored : (records : List Record) (edit : Record) (request : UdcRequest) (reply : UdcReply)
        → judge limits records request ≡ Store edit reply → Counts records → Counts (records ++ edit ∷ [])
    stored records edit (Edit other q wish) reply is counts =
        let done = is_done limits records other q wish edit reply is in
        subst (λ e. Counts (records ++ e ∷ [])) done.edit_is
        (wished records other q wish (editor == other) refl (numbered limits records other q wish done.not_refused) counts)
    stored records edit (TakeUp centre k item) reply is counts =
        let asked = record_of (TakeUp centre k item) in
        let answer = first_of (answers_of limits records (TakeUp centre k item)) in
        subst (λ e. Counts (records ++ e ∷ [])) (is_stored answer asked edit (length records) reply is).1 (others records asked refl counts)

    -- and so on to the end of the list
    on : (before later records : List Record) → records ≡ before ++ later → IsJudgedRun limits records → Counts before → Counts records
    on before [] records is judged counts = subst Counts (sym (append-nil before) ∙ sym is) counts
    on before (edit ∷ later) records is judged counts =
        let here = judged before later edit is in
        on (before ++ edit ∷ []) later records (is ∙ sym (append_assoc before (edit ∷ []) later)) judged
        (stored before edit here.0 here.1 here.2 counts)

    -- in a list that was judged
    pub numbers_of-judged : (records : List Record) → IsJudgedRun limits records
        → numbers_of editor records ≡ from_one (length (numbers_of editor records))
    numbers_of-judged records judged = (on [] records records refl judged nothing).from
