-- What a proof in a crate above may cite: what is known of an edit that was stored, and of one that was answered at once.
use Rattle.std.proofs.Common.{◌≡◌, ℕ, ◌+◌, ◌<◌, Bool, true, false, eqb, List, [], ◌∷◌, length, Option, Some, None, refl, ap, sym, subst, ◌∙◌, arith}
use Rattle.std.specs.Prelude.{slice_get, option_map}
use Rattle.std.proofs.lemmas.Bool.{eqb-true, eq-eqb}
use Rattle.std.proofs.lemmas.List.FromFn.{get_or-range_with_len}
use Rattle.std.proofs.lemmas.Option.{slice_get_within, get_or_from_slice_get}
use Rattle.pv_outside.specs.declared.limits.Limits.{Limits}
use Rattle.pv_fields.specs.Reading.{◌>>=◌}
use Rattle.pv_fields.specs.Refusals.{first_of, some_if}
use Rattle.pv_edits.specs.Edits.{is_edit_of, number_in, last_index}
use Rattle.pv_edits.specs.declared.record.Record.{Record}
use Rattle.pv_edits.specs.declared.wish.EditWish.{EditWish}
use Rattle.pv_node.specs.declared.decision.Decision.{Decision}
use Rattle.pv_node.specs.declared.decision.Decision.TheVariants.{Answer, Store}
use Rattle.pv_udc.specs.EditList.{all_places}
use Rattle.pv_udc.specs.Requests.{IsRequest, HasCentre, edit_of, record_of}
use Rattle.pv_udc.specs.Judgement.{last_edit, next_number, kept_place, editor_refusal, refusal_of, reply_to, answers_of, decision_of, judge}
use Rattle.pv_udc.specs.declared.refusal.Refusal.{Refusal}
use Rattle.pv_udc.specs.declared.reply.UdcReply.{UdcReply}
use Rattle.pv_udc.specs.declared.reply.UdcReply.TheVariants.{Stored, Again, Refused}
use Rattle.pv_udc.specs.declared.request.UdcRequest.{UdcRequest}
use Rattle.pv_udc.specs.declared.request.UdcRequest.TheVariants.{Edit, TakeUp}
use Rattle.pv_udc.specs.Deciding.{is_done, is_stored, numbered}
use Rattle.pv_udc.proofs.Numbering.{is_edit_of-wish, number_in-wish}
-- there is room for it
pub use Rattle.pv_udc.specs.Rooms.{has_room-judged}
-- one record more is its editor's last edit, and no other's
pub use Rattle.pv_udc.proofs.LastEdits.{last_edit-his, last_edit-others}
-- the last record that passes a test is in the list, and passes
pub use Rattle.pv_udc.proofs.LastEdits.{last_index-within, last_index-passed}
-- what is found of an account's lines, from the last one back
pub use Rattle.pv_udc.proofs.Linking.{if_charged, billed_line-charge, charge_before-line, filter_map-none, filter_map-last}

-- a number and a place
abbrev pair : ℕ → ℕ → Option (ℕ × ℕ)
pair q place = Some (q, place)

-- a number beside a place; none for no number
abbrev placed : ℕ → Option ℕ → Option (ℕ × ℕ)
placed place number = option_map (λ (q : ℕ). (q, place)) number

-- a pair that there is
abbrev or_none : Option (ℕ × ℕ) → ℕ × ℕ
or_none None = (0, 0)
or_none (Some p) = p

-- ---- an edit that is stored

-- its number is its editor's next
pub next-judged : (limits : Limits) (records : List Record) (request : UdcRequest) (edit : Record) (reply : UdcReply)
    → judge limits records request ≡ Store edit reply → (e : ℕ) → is_edit_of e edit ≡ true → number_in edit ≡ Some (next_number records e)
next-judged limits records (Edit editor q wish) edit reply is e his =
    let done = is_done limits records editor q wish edit reply is in
    let same : e ≡ editor = eqb-true e editor (sym (is_edit_of-wish e editor q wish) ∙ ap (is_edit_of e) done.edit_is ∙ his) in
    ap number_in (sym done.edit_is) ∙ number_in-wish editor q wish ∙ ap Some (numbered limits records editor q wish done.not_refused)
    ∙ ap (λ (n : ℕ). Some (next_number records n)) (sym same)
next-judged limits records (TakeUp centre k item) edit reply is e his =
    let asked = record_of (TakeUp centre k item) in
    let answer = first_of (answers_of limits records (TakeUp centre k item)) in
    let none : false ≡ true = ap (is_edit_of e) (is_stored answer asked edit (length records) reply is).1 ∙ his in
    absurd cc

module _ (limits : Limits) (records : List Record) (editor q : ℕ) (wish : EditWish) where
  -- the reply of a decision, or this one
  abbrev reply_or : UdcReply → Decision Record UdcReply → UdcReply
  reply_or other (Answer reply) = reply
  reply_or other (Store edit reply) = reply

  -- it is his, under his number, and its place is the reply
  pub record IsHis (edit : Record) (reply : UdcReply) : Type 0 where
    pub his : is_edit_of editor edit ≡ true
    pub numbered : number_in edit ≡ Some q
    pub reply_is : reply ≡ Stored (length records)

  -- so it is
  pub is_his : (edit : Record) (reply : UdcReply) → judge limits records (Edit editor q wish) ≡ Store edit reply → IsHis edit reply
  is_his edit reply is =
      let done = is_done limits records editor q wish edit reply is in
      record {
        his = ap (is_edit_of editor) (sym done.edit_is) ∙ is_edit_of-wish editor editor q wish ∙ eq-eqb editor editor refl;
        numbered = ap number_in (sym done.edit_is) ∙ number_in-wish editor q wish;
        reply_is = by (first_of (answers_of limits records (Edit editor q wish))) is;
      }
    where
      by : (answer : Option UdcReply) → decision_of answer (edit_of editor q wish) (length records) ≡ Store edit reply
          → reply ≡ Stored (length records)
      by None stored = sym (ap (reply_or reply) stored)
      by (Some other) stored = absurd cc

  -- ---- an edit that is answered at once

  -- it is refused, or it is his last one again
  abbrev pub IsAnswered : UdcReply → Type 0
  IsAnswered (Again place) = last_edit records editor ≡ Some (q, place)
  IsAnswered (Refused code) = Unit {0}
  IsAnswered _ = ⊥

  -- the kept place is that of his last edit
  is_kept : (last : Option (ℕ × ℕ)) (place : ℕ) → (last >>= λ edit. some_if (eqb edit.0 q) edit.1) ≡ Some place → last ≡ pair q place
  is_kept None place is = absurd cc
  is_kept (Some (number, at)) place is = by (eqb number q) (eqb-true number q) is
    where
      by : (test : Bool) → (test ≡ true → number ≡ q) → some_if test at ≡ Some place → pair number at ≡ pair q place
      by true same kept = let here : at ≡ place = cc in rw (same refl, here) refl
      by false same kept = absurd cc

  pub is_answered : (reply : UdcReply) → judge limits records (Edit editor q wish) ≡ Answer reply → IsAnswered reply
  is_answered reply is =
      by (editor_refusal records editor) (kept_place records editor q) (refusal_of limits records editor q wish)
      (is_kept (last_edit records editor)) is
    where
      by : (known : Option Refusal) (kept : Option ℕ) (fault : Option Refusal)
          → ((place : ℕ) → kept ≡ Some place → last_edit records editor ≡ Some (q, place))
          → decision_of (first_of (option_map reply_to known ∷ option_map Again kept ∷ option_map reply_to fault ∷ []))
          (edit_of editor q wish) (length records) ≡ Answer reply
          → IsAnswered reply
      by (Some refusal) kept fault last answered = subst IsAnswered (ap (reply_or reply) answered) tt
      by None (Some place) fault last answered = subst IsAnswered (ap (reply_or reply) answered) (last place refl)
      by None None (Some refusal) last answered = subst IsAnswered (ap (reply_or reply) answered) tt
      by None None None last answered = absurd cc

-- ---- an editor's last edit

-- it stands at its place, under its number
pub record IsThere (records : List Record) (editor q place : ℕ) : Type 0 where
  pub edit : Record
  pub there : slice_get records place ≡ Some edit
  pub his : is_edit_of editor edit ≡ true
  pub numbered : number_in edit ≡ Some q

pub last_edit-there : (records : List Record) (editor q place : ℕ) → last_edit records editor ≡ Some (q, place)
    → IsThere records editor q place
last_edit-there records editor q place is = by (last_index (is_edit_of editor) records) refl is
  where
    named : (edit : Record) (number : Option ℕ) (at : ℕ) → placed at number ≡ pair q place → (number ≡ Some q) × (at ≡ place)
    named edit (Some n) at is =
        let number : n ≡ q = ap (λ (o : Option (ℕ × ℕ)). (or_none o).0) is in
        let place_is : at ≡ place = ap (λ (o : Option (ℕ × ℕ)). (or_none o).1) is in
        (ap Some number, place_is)
    named edit None at is = absurd cc

    found : (i : ℕ) (edit : Record) (at : Option ℕ) → last_index (is_edit_of editor) records ≡ Some i → slice_get records i ≡ Some edit
        → slice_get (all_places records) i ≡ at → (at >>= λ p. placed p (number_in edit)) ≡ pair q place
        → IsThere records editor q place
    found i edit None last here at is = absurd cc
    found i edit (Some p) last here at is =
        let both = named edit (number_in edit) p is in
        let within : i < length records = slice_get_within records i edit here in
        let index : p ≡ i = sym (get_or_from_slice_get (all_places records) i p 0 at)
        ∙ get_or-range_with_len 0 (length records) i 0 within ∙ (let none : 0 + i ≡ i = omega arith in none) in
        record {
          edit = edit;
          there = ap (slice_get records) (sym both.1 ∙ index) ∙ here;
          his = last_index-passed (is_edit_of editor) records i edit last here;
          numbered = both.0;
        }

    there : (i : ℕ) (edit : Option Record) → last_index (is_edit_of editor) records ≡ Some i → slice_get records i ≡ edit
        → (edit >>= λ e. slice_get (all_places records) i >>= λ p. placed p (number_in e)) ≡ pair q place
        → IsThere records editor q place
    there i None last here is = absurd cc
    there i (Some edit) last here is = found i edit (slice_get (all_places records) i) last here refl is

    by : (i : Option ℕ) → last_index (is_edit_of editor) records ≡ i
        → (i >>= λ k. slice_get records k >>= λ e. slice_get (all_places records) k >>= λ p. placed p (number_in e)) ≡ pair q place
        → IsThere records editor q place
    by None last is = absurd cc
    by (Some i) last is = there i (slice_get records i) last refl is

-- ---- a request

-- one within its ranges may be decided on
pub HasCentre-request : (request : UdcRequest) → IsRequest request → HasCentre request
HasCentre-request (Edit editor q wish) is = tt
HasCentre-request (TakeUp centre k item) is = is.centre
