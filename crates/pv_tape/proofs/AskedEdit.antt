-- What is known after an edit of a tape was asked for, from what was decided on it.
use Rattle.std.proofs.Common.{◌≡◌, ◌⊎◌, inl, inr, ℕ, ◌<◌, List, [], ◌∷◌, ◌++◌, length, take, Option, Some, None, Result, Ok, Err, refl}
use Rattle.std.proofs.Common.{sym, ap, subst, ◌∙◌, arith}
use Rattle.std.proofs.lemmas.List.{append-nil}
use Rattle.pv_outside.specs.declared.limits.Limits.{Limits}
use Rattle.pv_outside.specs.declared.reports.Reports as reports
use Rattle.pv_edits.specs.declared.record.Record.{Record}
use Rattle.pv_edits.specs.declared.wish.EditWish.{EditWish}
use Rattle.pv_node.specs.Asking.{CarriesOut, AskLeaves, to_store}
use Rattle.pv_node.specs.declared.decision.Decision.{Decision}
use Rattle.pv_node.specs.declared.decision.Decision.TheVariants.{Answer, Store}
use Rattle.pv_node.specs.declared.decision.Told.{Told}
use Rattle.pv_node.specs.declared.fault.AskFault.TheVariants.{Full, Disk}
use Rattle.pv_node.specs.declared.rules.Rules as rules
use Rattle.pv_node.specs.Parts.{Parts}
use Rattle.pv_node.specs.Standing.{Stands, StandsEither, StandsFor, KeepsAll, Gains}
use Rattle.pv_udc.specs.EditList.{EditList, with_record}
use Rattle.pv_udc.specs.Judgement.{last_edit, judge}
use Rattle.pv_udc.specs.Requests.{edit_of}
use Rattle.pv_udc.specs.Deciding.{is_done}
use Rattle.pv_udc.specs.declared.reply.Code.{Code}
use Rattle.pv_udc.specs.declared.reply.UdcReply.{UdcReply}
use Rattle.pv_udc.specs.declared.reply.UdcReply.TheVariants as replies
use Rattle.pv_udc.specs.declared.request.UdcRequest.{UdcRequest}
use Rattle.pv_udc.specs.declared.request.UdcRequest.TheVariants.{Edit}
use Rattle.pv_udc.proofs.CallerLemmas.{is_his, IsAnswered, is_answered, last_edit-his}
use Rattle.pv_journal.specs.Journal.{LeavesOnly}
use Rattle.pv_journal.proofs.Moments.{only_weaker}
use Rattle.pv_editor.specs.Say.{number_of_last}
use Rattle.pv_tape.specs.Loading.{LeavesPrefix, IsToStore, CanAsk}

-- the reply that was returned, or this
abbrev told_or : {F : Type 0} → Told UdcReply → Result (Told UdcReply) F → Told UdcReply
told_or other (Ok told) = told
told_or other (Err fault) = other

module _ {S D : Type 0} (r : rules.Ghosts S EditList UdcRequest Record UdcReply) (g : reports.Ghosts D)
    (old new : Parts D EditList Record) (editor q : ℕ) (wish : EditWish)
    (judged : (state : EditList) → r.judgement state (Edit editor q wish) ≡ judge state.limits state.records (Edit editor q wish))
    (after : (state : EditList) (edit : Record) (place : ℕ) → r.after state edit place ≡ with_record state edit) where
  -- the edit as a record, and what is decided on it
  abbrev asked : Record
  asked = edit_of editor q wish

  abbrev decided : Decision Record UdcReply
  decided = judge old.state.limits old.state.records (Edit editor q wish)

  -- what was to be stored could be asked for
  can_ask : (edit : Record) (reply : UdcReply) → decided ≡ Store edit reply → CanAsk old editor q wish
  can_ask edit reply is = subst (λ (d : Decision Record UdcReply). IsToStore d) (sym is) tt

  -- ---- it was stored

  pub record WasStored : Type 0 where
    pub gains : Gains r g old new asked
    pub hand : new.hand ≡ None
    pub last : number_of_last (last_edit new.state.records editor) ≡ q
    pub to_store : CanAsk old editor q wish

  pub was_stored : (F : Type 0) (d : Decision Record UdcReply) (told : Told UdcReply) (place : ℕ) → decided ≡ d
      → CarriesOut r g {F = F} d old new (Ok told) → told.reply ≡ replies.Stored place → WasStored
  was_stored F (Answer reply) told place is carried said =
      let reply_is : reply ≡ replies.Stored place = sym (ap (λ (t : Told UdcReply). t.reply) (ap (told_or told) carried.0)) ∙ said in
      absurd (subst (IsAnswered old.state.limits old.state.records editor q wish) reply_is
      (is_answered old.state.limits old.state.records editor q wish reply is))
  was_stored F (Store edit reply) told place is carried said =
      let same : asked ≡ edit = (is_done old.state.limits old.state.records editor q wish edit reply is).edit_is in
      let his = is_his old.state.limits old.state.records editor q wish edit reply is in
      let state : new.state ≡ with_record old.state edit = carried.1.state ∙ after old.state edit old.journal.count in
      let records : new.state.records ≡ old.state.records ++ edit ∷ [] = ap (λ (s : EditList). s.records) state in
      record {
        gains = subst (λ (e : Record). Gains r g old new e) (sym same) carried.1.records;
        hand = carried.1.hand;
        last = ap (λ (l : List Record). number_of_last (last_edit l editor)) records
            ∙ ap number_of_last (last_edit-his old.state.records edit editor q his.his his.numbered);
        to_store = can_ask edit reply is;
      }

  -- ---- it was refused

  -- a reply that is not `Stored` was given at once
  pub was_answered : (F : Type 0) (d : Decision Record UdcReply) (told : Told UdcReply) → decided ≡ d
      → CarriesOut r g {F = F} d old new (Ok told) → (told.reply ≡ replies.Stored (length old.state.records) → ⊥)
      → (new ≡ old) × (decided ≡ Answer told.reply)
  was_answered F (Answer reply) told is carried other =
      (carried.1, is ∙ ap Answer (sym (ap (λ (t : Told UdcReply). t.reply) (ap (told_or told) carried.0))))
  was_answered F (Store edit reply) told is carried other =
      let his = is_his old.state.limits old.state.records editor q wish edit reply is in
      absurd (other (ap (λ (t : Told UdcReply). t.reply) carried.0 ∙ his.reply_is))

  -- it is not his last edit again
  pub not_again : number_of_last (last_edit old.state.records editor) < q → (place : ℕ) → decided ≡ Answer (replies.Again place) → ⊥
  not_again above place is =
      let last = is_answered old.state.limits old.state.records editor q wish (replies.Again place) is in
      let number : number_of_last (last_edit old.state.records editor) ≡ q = ap number_of_last last in
      omega (arith, above, number)

  -- ---- what a crash leaves

  -- what is to be stored is what was asked for
  leaves_decided : (d : Decision Record UdcReply) → decided ≡ d → (records : List Record) (image : List ℕ)
      → StandsEither r records (to_store d) image → Stands r image records ⊎ Stands r image (records ++ asked ∷ [])
  leaves_decided (Answer reply) is records image stands = inl stands
  leaves_decided (Store edit reply) is records image (inl stands) = inl stands
  leaves_decided (Store edit reply) is records image (inr stands) =
      let same = (is_done old.state.limits old.state.records editor q wish edit reply is).edit_is in
      inr (subst (λ (e : Record). Stands r image (records ++ e ∷ [])) (sym same) stands)

  pub leaves_asked : old.hand ≡ None → (records : List Record) (image : List ℕ)
      → AskLeaves r g (Edit editor q wish) old records image → Stands r image records ⊎ Stands r image (records ++ asked ∷ [])
  leaves_asked none records image (inl stands) = inl (subst (λ (h : Option Record). StandsEither r records h image) none stands)
  leaves_asked none records image (inr (settled, None, is, stands)) =
      let same : settled ≡ old = is.same none in
      let state : r.judgement settled.state (Edit editor q wish) ≡ decided =
      ap (λ (p : Parts D EditList Record). r.judgement p.state (Edit editor q wish)) same ∙ judged old.state in
      leaves_decided decided refl records image
      (subst (λ (d : Decision Record UdcReply). StandsEither r records (to_store d) image) state stands)
  leaves_asked none records image (inr (settled, Some rec, is, stands)) = absurd (let no : None ≡ Some rec = sym none ∙ is.was in cc)

  -- and so a prefix of what was asked for
  pub prefix_left : (records : List Record) (image : List ℕ) → Stands r image records ⊎ Stands r image (records ++ asked ∷ [])
      → (n : ℕ) × Stands r image (records ++ take n (asked ∷ []))
  prefix_left records image (inl stands) = (0, subst (λ (l : List Record). Stands r image l) (sym (append-nil records)) stands)
  prefix_left records image (inr stands) = (1, stands)

  -- ---- there was no room

  pub was_full : (F : Type 0) → ((state : EditList) → r.limits_of state ≡ state.limits) → (d : Decision Record UdcReply) (count : ℕ)
      → decided ≡ d → CarriesOut r g {F = F} d old new (Err (Full count))
      → (new ≡ old) × (count ≡ old.state.limits.records) × CanAsk old editor q wish
  was_full F limits (Answer reply) count is carried = absurd (let no = carried.0 in cc)
  was_full F limits (Store edit reply) count is carried =
      (carried.same, carried.limit ∙ ap (λ (l : Limits). l.records) (limits old.state), can_ask edit reply is)

  -- ---- a call of the disk failed

  pub was_taken : {F : Type 0} (d : Decision Record UdcReply) (failure : F) → decided ≡ d
      → CarriesOut r g {F = F} d old new (Err (Disk failure))
      → KeepsAll r g old new × (new.hand ≡ Some asked) × CanAsk old editor q wish
  was_taken (Answer reply) failure is carried = absurd (let no = carried.0 in cc)
  was_taken (Store edit reply) failure is carried =
      let same : asked ≡ edit = (is_done old.state.limits old.state.records editor q wish edit reply is).edit_is in
      (carried.records, carried.hand ∙ ap Some (sym same), can_ask edit reply is)

  -- what is answered at once is a refusal
  pub only_refused : number_of_last (last_edit old.state.records editor) < q → (reply : UdcReply) → decided ≡ Answer reply
      → ((code : Code) → reply ≡ replies.Refused code → ⊥) → ⊥
  only_refused above (replies.Refused code) is other = other code refl
  only_refused above (replies.Again place) is other = not_again above place is
  only_refused above (replies.Stored place) is other =
      is_answered old.state.limits old.state.records editor q wish (replies.Stored place) is
  only_refused above (replies.Old count) is other = is_answered old.state.limits old.state.records editor q wish (replies.Old count) is
  only_refused above (replies.Early count) is other = is_answered old.state.limits old.state.records editor q wish (replies.Early count) is

  -- a crash leaves a prefix of what was asked for
  pub asked_leaves : old.hand ≡ None → ((records : List Record) → StandsFor r g old records
      → LeavesOnly g old.journal.disk new.journal.disk (AskLeaves r g (Edit editor q wish) old records))
      → LeavesPrefix r g old new (asked ∷ [])
  asked_leaves none moments = λ records stands.
      only_weaker g {old = old.journal.disk} {new = new.journal.disk} {P = AskLeaves r g (Edit editor q wish) old records}
      {Q = λ image. (n : ℕ) × Stands r image (records ++ take n (asked ∷ []))}
      (λ told image left. prefix_left records image (leaves_asked none records image left)) (moments records stands)
