-- A request under an editor's last number is his last edit again.
use Rattle.std.proofs.Common.{◌≡◌, ℕ, true, List, [], ◌∷◌, ◌++◌, length, Some, refl, subst, ◌∙◌}
use Rattle.std.proofs.lemmas.Bool.{eq-eqb}
use Rattle.pv_outside.specs.declared.limits.Limits.{Limits}
use Rattle.pv_edits.specs.Room.{has_editor}
use Rattle.pv_edits.specs.declared.record.Record.{Record}
use Rattle.pv_edits.specs.declared.wish.EditWish.{EditWish}
use Rattle.pv_node.specs.declared.decision.Decision.TheVariants.{Answer, Store}
use Rattle.pv_udc.specs.Requests.{edit_of}
use Rattle.pv_udc.specs.Judgement.{last_edit, judge}
use Rattle.pv_udc.specs.declared.reply.UdcReply.{UdcReply}
use Rattle.pv_udc.specs.declared.reply.UdcReply.TheVariants.{Again}
use Rattle.pv_udc.specs.declared.request.UdcRequest.TheVariants.{Edit}
use Rattle.pv_udc.specs.Deciding.{is_done}
use Rattle.pv_udc.proofs.LastEdits.{last_edit-his, has_editor-push}
use Rattle.pv_udc.proofs.Numbering.{is_edit_of-wish, number_in-wish}

module _ (limits : Limits) where
  -- his last number, whatever is asked
  pub again : (records : List Record) (editor q place : ℕ) (wish : EditWish) → has_editor records editor ≡ true
      → last_edit records editor ≡ Some (q, place) → judge limits records (Edit editor q wish) ≡ Answer (Again place)
  again records editor q place wish known last = rw (known, last, eq-eqb q q refl) refl

  -- the number of an edit that was just stored
  pub again-stored : (records : List Record) (editor q : ℕ) (wish other : EditWish) (edit : Record) (reply : UdcReply)
      → judge limits records (Edit editor q wish) ≡ Store edit reply
      → judge limits (records ++ edit ∷ []) (Edit editor q other) ≡ Answer (Again (length records))
  again-stored records editor q wish other edit reply is =
      let done = is_done limits records editor q wish edit reply is in
      let known = has_editor-push editor records edit done.has_account in
      let asked = edit_of editor q wish in
      let his = is_edit_of-wish editor editor q wish ∙ eq-eqb editor editor refl in
      let last = last_edit-his records asked editor q his (number_in-wish editor q wish) in
      again (records ++ edit ∷ []) editor q (length records) other known
      (subst (λ e. last_edit (records ++ e ∷ []) editor ≡ Some (q, length records)) done.edit_is last)
