-- What is known if a request is stored: no answer applies, and so no refusal.
use Rattle.std.proofs.Common.{◌≡◌, ℕ, Bool, true, false, not, List, length, Option, Some, None, refl, ap, subst}
use Rattle.std.proofs.lemmas.Bool.{eqb-true}
use Rattle.pv_outside.specs.declared.limits.Limits.{Limits}
use Rattle.pv_fields.specs.Refusals.{first_of}
use Rattle.pv_fields.proofs.CallerLemmas.{all_missing, some_if-none, option_map-none_back}
use Rattle.pv_edits.specs.Room.{has_editor}
use Rattle.pv_edits.specs.declared.record.Record.{Record}
use Rattle.pv_edits.specs.declared.wish.EditWish.{EditWish}
use Rattle.pv_edits.specs.declared.wish.EditWish.TheVariants.{Put, Drop, Account, Lease}
use Rattle.pv_node.specs.declared.decision.Decision.{Decision}
use Rattle.pv_node.specs.declared.decision.Decision.TheVariants.{Answer, Store}
use Rattle.pv_udc.specs.Requests.{edit_of}
use Rattle.pv_udc.specs.Judgement.{next_number, kept_place, editor_refusal, number_refusal, refusals_of, refusal_of, reply_to, answers_of, decision_of, judge}
use Rattle.pv_udc.specs.declared.refusal.Refusal.TheVariants.{NotLoggedOn, BadNumber}
use Rattle.pv_udc.specs.declared.reply.UdcReply.{UdcReply}
use Rattle.pv_udc.specs.declared.reply.UdcReply.TheVariants.{Again}
use Rattle.pv_udc.specs.declared.request.UdcRequest.TheVariants.{Edit}

-- a test whose negation fails holds
pub of_not : (test : Bool) → not test ≡ false → test ≡ true
of_not true is = refl
of_not false is = absurd cc

-- the record that is stored, or this one
abbrev stored_or : Record → Decision Record UdcReply → Record
stored_or other (Answer reply) = other
stored_or other (Store edit reply) = edit

-- nothing is stored
abbrev IsAnswer : Decision Record UdcReply → Type 0
IsAnswer (Answer reply) = Unit {0}
IsAnswer (Store edit reply) = ⊥

-- a record that is stored is the one that was asked for, and no answer applies
pub is_stored : (answer : Option UdcReply) (asked edit : Record) (count : ℕ) (reply : UdcReply)
    → decision_of answer asked count ≡ Store edit reply → (answer ≡ None) × (asked ≡ edit)
is_stored None asked edit count reply is = (refl, ap (stored_or asked) is)
is_stored (Some other) asked edit count reply is = absurd (subst IsAnswer is tt)

module _ (limits : Limits) (records : List Record) (editor q : ℕ) where
  -- what is known of a wish that is stored
  pub record IsStoredWish (wish : EditWish) (edit : Record) : Type 0 where
    pub edit_is : edit_of editor q wish ≡ edit
    pub has_account : has_editor records editor ≡ true
    pub new : kept_place records editor q ≡ None
    pub not_refused : refusal_of limits records editor q wish ≡ None

  pub is_done : (wish : EditWish) (edit : Record) (reply : UdcReply) → judge limits records (Edit editor q wish) ≡ Store edit reply
      → IsStoredWish wish edit
  is_done wish edit reply is =
      let answers = answers_of limits records (Edit editor q wish) in
      let stored = is_stored (first_of answers) (edit_of editor q wish) edit (length records) reply is in
      let none = all_missing answers stored.0 in
      record {
        edit_is = stored.1;
        has_account = of_not _ (some_if-none _ NotLoggedOn (option_map-none_back reply_to (editor_refusal records editor) none.0));
        new = option_map-none_back Again (kept_place records editor q) none.1.0;
        not_refused = option_map-none_back reply_to (refusal_of limits records editor q wish) none.1.1.0;
      }

  -- then its number is the editor's next
  is_next : number_refusal records editor q ≡ None → q ≡ next_number records editor
  is_next none = eqb-true _ _ (of_not _ (some_if-none _ (BadNumber (next_number records editor)) none))

  pub numbered : (wish : EditWish) → refusal_of limits records editor q wish ≡ None → q ≡ next_number records editor
  numbered (Put name frame) none = is_next (all_missing (refusals_of limits records editor q (Put name frame)) none).1.0
  numbered (Drop name) none = is_next (all_missing (refusals_of limits records editor q (Drop name)) none).1.0
  numbered (Account account) none = is_next (all_missing (refusals_of limits records editor q (Account account)) none).0
  numbered (Lease root account) none = is_next (all_missing (refusals_of limits records editor q (Lease root account)) none).0
