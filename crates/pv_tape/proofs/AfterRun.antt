-- After a run the node stands for what the law of runs speaks of, whether the record that is in hand then is found stored or not.
use Rattle.std.proofs.Common.{◌≡◌, ◌⊎◌, inl, inr, ℕ, zero, suc, ◌+◌, ◌-◌, ◌<◌, ◌≤◌, Bool, List, [], ◌∷◌, ◌++◌, length, take, drop, Option}
use Rattle.std.proofs.Common.{Some, None, refl, sym, ap, subst, ◌∙◌, arith, append_assoc}
use Rattle.std.proofs.lemmas.List.{append-nil}
use Rattle.std.proofs.Math.Seq.{take-append_seam}
use Rattle.pv_outside.specs.declared.reports.Reports as reports
use Rattle.pv_edits.specs.declared.record.Record.{Record}
use Rattle.pv_node.specs.Asking.{records_with}
use Rattle.pv_node.specs.Parts.{Parts}
use Rattle.pv_node.specs.Standing.{StandsFor, KeepsAll}
use Rattle.pv_node.specs.declared.rules.Rules as rules
use Rattle.pv_udc.specs.EditList.{EditList}
use Rattle.pv_udc.specs.Requests.{edit_of}
use Rattle.pv_udc.specs.declared.reply.UdcReply.{UdcReply}
use Rattle.pv_udc.specs.declared.request.UdcRequest.{UdcRequest}
use Rattle.pv_input.specs.Reading.{IsReadWhole}
use Rattle.pv_tape.specs.Laws.{lone_run, records_after_run}
use Rattle.pv_tape.specs.Loading.{last_number_of, edit_records, records_above, wanted_records, IsEditEnd, IsStoppedAt, IsLoadEnd}
use Rattle.pv_tape.specs.Running.{IsFromHand, GainsAfter, StandsAfterRun, IsTextRun, IsTapeRun}
use Rattle.pv_tape.specs.Tape.{TapeEdit}
use Rattle.pv_tape.specs.declared.end.TapeEnd.{TapeEnd}
use Rattle.pv_tape.specs.declared.end.TapeEnd.TheVariants.{Done, ReadFault, TooLong, BadTape, NotKnown, Refused, Full, DiskFault, Memory}
use Rattle.pv_tape.specs.declared.head.Head.{Head}
use Rattle.pv_tape.proofs.Progressing.{length_records, records_append}
use Rattle.pv_tape.proofs.Runs.{after_run, after_whole_run}

-- ---- lists

drop_within : {A : Type 0} (n : ℕ) (x y : List A) → n ≤ length x → drop n (x ++ y) ≡ drop n x ++ y
drop_within zero x y within = refl
drop_within (suc n) [] y within = absurd (omega (arith, within))
drop_within (suc n) (c ∷ x) y within = drop_within n x y (omega (arith, within))

take_one_more : {A : Type 0} (x : List A) (c : A) (y : List A) → take (suc (length x)) (x ++ c ∷ y) ≡ x ++ c ∷ []
take_one_more [] c y = refl
take_one_more (d ∷ x) c y = ap (λ (l : List _). d ∷ l) (take_one_more x c y)

-- what is wanted of edits up to one that was asked for, and from it on
wanted_at : (last account q : ℕ) (before : List TapeEdit) (edit : TapeEdit) (later : List TapeEdit) → last < q + length before
    → records_above last account q (before ++ edit ∷ later)
    ≡ records_above last account q before ++ edit_records account (q + length before) (edit ∷ later)
wanted_at last account q before edit later asked =
    ap (drop (last + 1 - q)) (records_append account q before (edit ∷ later))
    ∙ drop_within (last + 1 - q) (edit_records account q before) (edit_records account (q + length before) (edit ∷ later))
    (omega (arith, asked, length_records account q before))

module _ {S D : Type 0} (r : rules.Ghosts S EditList UdcRequest Record UdcReply) (g : reports.Ghosts D)
    (stood : (state : EditList) (records : List Record) → r.stands state records → state.records ≡ records)
    (head : Head) (edits : List TapeEdit) (old new : Parts D EditList Record) where
  -- nothing was stored, and what was in hand still is
  pub stays : KeepsAll r g old new → new.hand ≡ old.hand → StandsAfterRun r g old new head edits
  stays keeps hand = λ records stands. (
    records,
    keeps records stands,
    λ later from. (
      later,
      subst (λ (h : Option Record). IsFromHand h later) hand from,
      0,
      sym (append-nil (records_with records later)) ∙ after_run head edits (records_with records later) 0,
    ),
  )

  module _ (part : Option Record) (of_hand : IsFromHand old.hand part) where
    same_with : (records : List Record) → StandsFor r g old records → records_with old.state.records part ≡ records_with records part
    same_with records stands = ap (λ (l : List Record). records_with l part) (stood old.state records stands.state)

    -- all edits were stored that were asked for
    all_stored : GainsAfter r g old new part (wanted_records (records_with old.state.records part) head edits) → new.hand ≡ None
        → StandsAfterRun r g old new head edits
    all_stored gained hand = λ records stands.
        let now = records_with records part in
        let all = subst (λ (l : List Record). StandsFor r g new (now ++ wanted_records l head edits)) (same_with records stands)
        (gained records stands) in (
          now ++ wanted_records now head edits,
          all,
          λ later from. (
            part,
            of_hand,
            length (wanted_records now head edits),
            ap (records_with (now ++ wanted_records now head edits)) (none_later later from) ∙ after_whole_run head edits now,
          ),
        )
      where
        none_later : (later : Option Record) → IsFromHand new.hand later → later ≡ None
        none_later later (inl none) = none
        none_later later (inr same) = same ∙ hand

    -- one was not
    module _ {F : Type 0} (end : TapeEnd D F)
        (stopped : IsStoppedAt g old.journal.disk new (GainsAfter r g old new part) (records_with old.state.records part) head edits end)
      where
        abbrev asked_last : Record
        asked_last = edit_of head.account (head.first + length stopped.before) stopped.edit.wish

        hand_after : (e : TapeEnd D F) → IsEditEnd g old.journal.disk new head.account (head.first + length stopped.before) stopped.edit e
            → (new.hand ≡ None) ⊎ (new.hand ≡ Some asked_last)
        hand_after (Refused line code shown) ended = inl ended.1
        hand_after (Full count) ended = inl ended.1
        hand_after (DiskFault failure) ended = inr ended.0
        hand_after (Done done skipped) ended = absurd ended
        hand_after ReadFault ended = absurd ended
        hand_after TooLong ended = absurd ended
        hand_after (BadTape line) ended = absurd ended
        hand_after NotKnown ended = absurd ended
        hand_after Memory ended = absurd ended

        module _ (records : List Record) (stands : StandsFor r g old records) where
          abbrev now : List Record
          now = records_with records part

          abbrev done : List Record
          done = wanted_records now head stopped.before

          -- what was asked for is these, the one that was not stored, and others
          abbrev others : List Record
          others = edit_records head.account (head.first + length stopped.before + 1) stopped.later

          wanted_is : wanted_records now head edits ≡ done ++ asked_last ∷ others
          wanted_is =
              let above = subst (λ (l : List Record). last_number_of l head.account < head.first + length stopped.before)
              (same_with records stands) stopped.asked in
              ap (wanted_records now head) stopped.edits_are
              ∙ wanted_at (last_number_of now head.account) head.account head.first stopped.before stopped.edit stopped.later above

          without : now ++ done ≡ records_after_run head edits now (lone_run (length done))
          without =
              ap (λ (l : List Record). now ++ l)
              (sym (ap (take (length done)) wanted_is ∙ take-append_seam done (asked_last ∷ others)))
              ∙ after_run head edits now (length done)

          with_it : (now ++ done) ++ asked_last ∷ [] ≡ records_after_run head edits now (lone_run (suc (length done)))
          with_it =
              append_assoc now done (asked_last ∷ [])
              ∙ ap (λ (l : List Record). now ++ l)
              (sym (ap (take (suc (length done))) wanted_is ∙ take_one_more done asked_last others))
              ∙ after_run head edits now (suc (length done))

          abbrev After : Option Record → Type 0
          After later = (n : ℕ) × (records_with (now ++ done) later ≡ records_after_run head edits now (lone_run n))

          by_later : (later : Option Record) → (later ≡ None) ⊎ (later ≡ Some asked_last) → After later
          by_later later (inl none) = (length done, ap (records_with (now ++ done)) none ∙ without)
          by_later later (inr some) = (suc (length done), ap (records_with (now ++ done)) some ∙ with_it)

          which : (later : Option Record) → IsFromHand new.hand later → (new.hand ≡ None) ⊎ (new.hand ≡ Some asked_last)
              → (later ≡ None) ⊎ (later ≡ Some asked_last)
          which later (inl none) hand = inl none
          which later (inr same) (inl none) = inl (same ∙ none)
          which later (inr same) (inr some) = inr (same ∙ some)

          pub stands_after : StandsFor r g new (now ++ done)
          stands_after = subst (λ (l : List Record). StandsFor r g new (now ++ wanted_records l head stopped.before))
              (same_with records stands) (stopped.gained records stands)

        some_stored : StandsAfterRun r g old new head edits
        some_stored = λ records stands. (
          now records stands ++ done records stands,
          stands_after records stands,
          λ later from.
              let after = by_later records stands later (which records stands later from (hand_after end stopped.ended)) in
              (part, of_hand, after.0, after.1),
        )

    pub goes_on : {F : Type 0} (end : TapeEnd D F)
        → IsLoadEnd g old.journal.disk new (GainsAfter r g old new part) (records_with old.state.records part) head edits end
        → StandsAfterRun r g old new head edits
    goes_on (Done done skipped) loaded = all_stored loaded.gained loaded.hand
    goes_on {F = F} (Refused line code shown) stopped = some_stored {F = F} (Refused line code shown) stopped
    goes_on {F = F} (Full count) stopped = some_stored {F = F} (Full count) stopped
    goes_on {F = F} (DiskFault failure) stopped = some_stored {F = F} (DiskFault failure) stopped
    goes_on {F = F} ReadFault stopped = some_stored {F = F} ReadFault stopped
    goes_on {F = F} TooLong stopped = some_stored {F = F} TooLong stopped
    goes_on {F = F} (BadTape line) stopped = some_stored {F = F} (BadTape line) stopped
    goes_on {F = F} NotKnown stopped = some_stored {F = F} NotKnown stopped
    goes_on {F = F} Memory stopped = some_stored {F = F} Memory stopped

-- a text that was read whole was run
pub ran_whole : {S D F : Type 0} (r : rules.Ghosts S EditList UdcRequest Record UdcReply) (g : reports.Ghosts D)
    (old new : Parts D EditList Record) (text : List ℕ) (left : Option (List ℕ)) (ended : Bool) (before now : ℕ) (end : TapeEnd D F)
    → IsReadWhole text left ended → IsTextRun r g old new text end → IsTapeRun r g old new text left ended before now end
ran_whole r g old new text left ended before now (Done stored skipped) whole run = (whole, run)
ran_whole r g old new text left ended before now (BadTape line) whole run = (whole, run)
ran_whole r g old new text left ended before now NotKnown whole run = (whole, run)
ran_whole r g old new text left ended before now (Refused line code shown) whole run = (whole, run)
ran_whole r g old new text left ended before now (Full count) whole run = (whole, run)
ran_whole r g old new text left ended before now (DiskFault failure) whole run = (whole, run)
ran_whole r g old new text left ended before now ReadFault whole run = absurd run.4.2.ended
ran_whole r g old new text left ended before now TooLong whole run = absurd run.4.2.ended
ran_whole r g old new text left ended before now Memory whole run = absurd run.4.2.ended
