-- A run after a settling: what is stored after the record that was in hand, or after none.
use Rattle.std.proofs.Common.{◌≡◌, inl, inr, ℕ, ◌<◌, ◌≤◌, true, List, [], ◌∷◌, ◌++◌, take, Option, Some, None, refl, sym, ap, subst, ◌∙◌}
use Rattle.std.specs.Prelude.{is_some}
use Rattle.std.proofs.lemmas.List.{append-nil}
use Rattle.pv_outside.specs.declared.reports.Reports as reports
use Rattle.pv_journal.specs.Journal.{LeavesOnly}
use Rattle.pv_journal.proofs.Moments.{only_weaker, only_then}
use Rattle.pv_account.specs.Profile.{Profile}
use Rattle.pv_edits.specs.Edits.{account_at}
use Rattle.pv_edits.specs.Room.{has_editor}
use Rattle.pv_edits.specs.declared.record.Record.{Record}
use Rattle.pv_edits.proofs.CallerLemmas.{account_stays}
use Rattle.pv_node.specs.Asking.{IsSettled, records_with}
use Rattle.pv_node.specs.Parts.{Parts}
use Rattle.pv_node.specs.Standing.{Stands, StandsEither, StandsFor}
use Rattle.pv_node.specs.declared.rules.Rules as rules
use Rattle.pv_udc.specs.EditList.{EditList, with_record}
use Rattle.pv_udc.specs.Judgement.{next_number}
use Rattle.pv_udc.specs.declared.reply.UdcReply.{UdcReply}
use Rattle.pv_udc.specs.declared.request.UdcRequest.{UdcRequest}
use Rattle.pv_tape.specs.Laws.{lone_run, records_after_run}
use Rattle.pv_tape.specs.Loading.{wanted_records, GainsAll, LeavesPrefix, IsLoadEnd, IsEditEnd, IsStoppedAt, IsTooHigh}
use Rattle.pv_editor.specs.Say.{is_password}
use Rattle.pv_tape.specs.Running.{IsFromHand, is_known, LeavesPart, GainsAfter, IsSettledEnd, IsEditsEnd}
use Rattle.pv_tape.specs.Tape.{TapeEdit}
use Rattle.pv_tape.specs.declared.end.TapeEnd.{TapeEnd}
use Rattle.pv_tape.specs.declared.end.TapeEnd.TheVariants.{Done, ReadFault, TooLong, BadTape, NotKnown, Refused, Full, DiskFault, Memory}
use Rattle.pv_tape.specs.declared.head.Head.{Head}
use Rattle.pv_tape.proofs.Loaded.{rose_since}
use Rattle.pv_tape.proofs.Runs.{after_run}

module _ {S D : Type 0} (r : rules.Ghosts S EditList UdcRequest Record UdcReply) (g : reports.Ghosts D)
    (stood : (state : EditList) (records : List Record) → r.stands state records → state.records ≡ records)
    (after : (state : EditList) (edit : Record) (place : ℕ) → r.after state edit place ≡ with_record state edit)
    (head : Head) (edits : List TapeEdit) (old settled : Parts D EditList Record) where
  -- what was settled was in hand
  of_hand : (stored : Option Record) → IsSettled r g old settled stored → IsFromHand old.hand stored
  of_hand None is = inl refl
  of_hand (Some rec) is = inr (sym is.was)

  -- and the records are those with it
  settled_records : (stored : Option Record) → IsSettled r g old settled stored
      → settled.state.records ≡ records_with old.state.records stored
  settled_records None is = ap (λ (s : EditList). s.records) is.state
  settled_records (Some rec) is = ap (λ (s : EditList). s.records) (is.state ∙ after old.state rec old.journal.count)

  -- an account stays one
  pub account_settled : (stored : Option Record) → IsSettled r g old settled stored → has_editor old.state.records head.account ≡ true
      → has_editor settled.state.records head.account ≡ true
  account_settled stored is has =
      subst (λ (l : List Record). has_editor l head.account ≡ true) (sym (settled_records stored is)) (by stored)
    where
      by : (part : Option Record) → has_editor (records_with old.state.records part) head.account ≡ true
      by None = has
      by (Some rec) = account_stays old.state.records rec head.account has

  settled_stands : (stored : Option Record) → IsSettled r g old settled stored → (records : List Record) → StandsFor r g old records
      → StandsFor r g settled (records_with records stored)
  settled_stands None is records stands = is.records records stands
  settled_stands (Some rec) is records stands = is.records records stands

  -- the records, perhaps with the one in hand, are a beginning of what the run leaves
  abbrev Left : List Record → List ℕ → Type 0
  Left records image = (part : Option Record) × IsFromHand old.hand part × (n : ℕ)
      × Stands r image (records_after_run head edits (records_with records part) (lone_run n))

  none_stored : (records : List Record) (image : List ℕ) → Stands r image records
      → Stands r image (records_after_run head edits records (lone_run 0))
  none_stored records image stands =
      subst (λ (l : List Record). Stands r image l) (sym (append-nil records) ∙ after_run head edits records 0) stands

  either_left : (hand : Option Record) → old.hand ≡ hand → (records : List Record) (image : List ℕ)
      → StandsEither r records hand image → Left records image
  either_left None is records image stands = (None, inl refl, 0, none_stored records image stands)
  either_left (Some rec) is records image (inl stands) = (None, inl refl, 0, none_stored records image stands)
  either_left (Some rec) is records image (inr stands) =
      (Some rec, inr (sym is), 0, none_stored (records ++ rec ∷ []) image stands)

  -- while it is settled
  pub settling_leaves : ((records : List Record) → StandsFor r g old records
      → LeavesOnly g old.journal.disk settled.journal.disk (StandsEither r records old.hand))
      → LeavesPart r g old settled head edits
  settling_leaves moments = λ records stands.
      only_weaker g {old = old.journal.disk} {new = settled.journal.disk} {P = StandsEither r records old.hand} {Q = Left records}
      (λ told image either. either_left old.hand refl records image either) (moments records stands)

  module _ (new : Parts D EditList Record) (stored : Option Record) (is : IsSettled r g old settled stored) where
    -- and while the lines are done
    pub run_leaves : ((records : List Record) → StandsFor r g old records
        → LeavesOnly g old.journal.disk settled.journal.disk (StandsEither r records old.hand))
        → LeavesPrefix r g settled new (wanted_records settled.state.records head edits)
        → LeavesPart r g old new head edits
    run_leaves settling loading = λ records stands.
        let now = loading (records_with records stored) (settled_stands stored is records stands) in
        let same : settled.state.records ≡ records_with records stored =
        settled_records stored is ∙ ap (λ (l : List Record). records_with l stored) (stood old.state records stands.state) in
        let weaker = only_weaker g {old = settled.journal.disk} {new = new.journal.disk}
        {P = λ image. (n : ℕ) × Stands r image (records_with records stored ++ take n (wanted_records settled.state.records head edits))}
        {Q = Left records}
        (λ told image left. (
          stored,
          of_hand stored is,
          left.0,
          subst (λ (l : List Record). Stands r image l) (after_run head edits (records_with records stored) left.0)
              (subst (λ (l : List Record). Stands r image (records_with records stored ++ take left.0 (wanted_records l head edits)))
              same left.1),
        )) now in
        only_then g {first = old.journal.disk} {second = settled.journal.disk} {third = new.journal.disk}
        (settling_leaves settling records stands) weaker.time weaker.now

    -- what was stored was stored after the settling
    gained_after : (more : List Record) → GainsAll r g settled new more → GainsAfter r g old new stored more
    gained_after more gained = λ records stands. gained (records_with records stored) (settled_stands stored is records stands)

    module _ (counted : g.faults old.journal.disk ≤ g.faults settled.journal.disk) where
      ended_since : {F : Type 0} (q : ℕ) (edit : TapeEdit) (end : TapeEnd D F)
          → IsEditEnd g settled.journal.disk new head.account q edit end → IsEditEnd g old.journal.disk new head.account q edit end
      ended_since q edit (Refused line code shown) ended = ended
      ended_since q edit (Full count) ended = ended
      ended_since q edit (DiskFault failure) ended = (ended.0, rose_since _ _ _ counted ended.1)
      ended_since q edit (Done done skipped) ended = absurd ended
      ended_since q edit ReadFault ended = absurd ended
      ended_since q edit TooLong ended = absurd ended
      ended_since q edit (BadTape line) ended = absurd ended
      ended_since q edit NotKnown ended = absurd ended
      ended_since q edit Memory ended = absurd ended

      -- how the asking ended, from the records after the settling on
      abbrev FromSettled : {F : Type 0} → TapeEnd D F → Type 0
      FromSettled end = IsLoadEnd g settled.journal.disk new (GainsAll r g settled new) settled.state.records head edits end

      abbrev FromRecords : {F : Type 0} → List Record → TapeEnd D F → Type 0
      FromRecords records end = IsLoadEnd g old.journal.disk new (GainsAfter r g old new stored) records head edits end

      stopped_since : {F : Type 0} (end : TapeEnd D F)
          → IsStoppedAt g settled.journal.disk new (GainsAll r g settled new) settled.state.records head edits end
          → IsStoppedAt g old.journal.disk new (GainsAfter r g old new stored) settled.state.records head edits end
      stopped_since end stopped = record {
        before = stopped.before;
        edit = stopped.edit;
        later = stopped.later;
        edits_are = stopped.edits_are;
        asked = stopped.asked;
        gained = gained_after _ stopped.gained;
        ended = ended_since _ stopped.edit end stopped.ended;
      }

      load_since : {F : Type 0} (end : TapeEnd D F) → FromSettled end → FromRecords settled.state.records end
      load_since (Done done skipped) loaded = record {
        counted = loaded.counted;
        asked = loaded.asked;
        gained = gained_after _ loaded.gained;
        hand = loaded.hand;
        reached = loaded.reached;
      }
      load_since (Refused line code shown) stopped = stopped_since (Refused line code shown) stopped
      load_since (Full count) stopped = stopped_since (Full count) stopped
      load_since (DiskFault failure) stopped = stopped_since (DiskFault failure) stopped
      load_since ReadFault stopped = stopped_since ReadFault stopped
      load_since TooLong stopped = stopped_since TooLong stopped
      load_since (BadTape line) stopped = stopped_since (BadTape line) stopped
      load_since NotKnown stopped = stopped_since NotKnown stopped
      load_since Memory stopped = stopped_since Memory stopped

      -- a first number that is above the account's next then
      abbrev AheadOf : {F : Type 0} → List Record → TapeEnd D F → Type 0
      AheadOf records end = next_number records head.account < head.first → IsTooHigh records head edits end

      pub settled_end : {F : Type 0} (end : TapeEnd D F) → FromSettled end → AheadOf settled.state.records end
          → IsSettledEnd r g old new head edits end
      settled_end end loaded ahead = (
        stored,
        of_hand stored is,
        subst (λ (l : List Record). FromRecords l end) (settled_records stored is) (load_since end loaded),
        subst (λ (l : List Record). AheadOf l end) (settled_records stored is) ahead,
      )

      -- how it ends
      pub run_ends : {F : Type 0} (end : TapeEnd D F) → FromSettled end → AheadOf settled.state.records end
          → IsEditsEnd r g old new head edits end
      run_ends {F = F} (DiskFault failure) loaded ahead = inr (settled_end {F = F} (DiskFault failure) loaded ahead)
      run_ends {F = F} (Done done skipped) loaded ahead = settled_end {F = F} (Done done skipped) loaded ahead
      run_ends {F = F} (Refused line code shown) loaded ahead = settled_end {F = F} (Refused line code shown) loaded ahead
      run_ends {F = F} (Full count) loaded ahead = settled_end {F = F} (Full count) loaded ahead
      run_ends {F = F} ReadFault loaded ahead = settled_end {F = F} ReadFault loaded ahead
      run_ends {F = F} TooLong loaded ahead = settled_end {F = F} TooLong loaded ahead
      run_ends {F = F} (BadTape line) loaded ahead = settled_end {F = F} (BadTape line) loaded ahead
      run_ends {F = F} NotKnown loaded ahead = settled_end {F = F} NotKnown loaded ahead
      run_ends {F = F} Memory loaded ahead = settled_end {F = F} Memory loaded ahead

-- whoever is known with his password is an account
pub known_account : (records : List Record) (head : Head) → is_known records head ≡ true → has_editor records head.account ≡ true
known_account records head known = by (account_at records head.account) known
  where
    by : (account : Option Profile) → is_password account head.password ≡ true → is_some account ≡ true
    by None known = absurd cc
    by (Some account) known = refl
