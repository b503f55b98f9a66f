-- What a crash leaves while a disk is opened and a tape is loaded into it, and after it.
use Rattle.std.proofs.Common.{◌≡◌, inl, inr, ℕ, Bool, List, ◌++◌, length, Option, Some, None, IsSome, IfSome}
use Rattle.std.proofs.Common.{refl, sym, ap, subst, ◌∙◌}
use Rattle.std.proofs.lemmas.List.{append-nil}
use Rattle.pv_outside.specs.declared.reports.Reports as reports
use Rattle.pv_journal.specs.Journal.{EachImage, LeavesOnly}
use Rattle.pv_journal.proofs.Moments.{only_weaker, only_then}
use Rattle.pv_edits.specs.declared.record.Record.{Record}
use Rattle.pv_node.specs.Asking.{records_with}
use Rattle.pv_node.specs.Parts.{Parts}
use Rattle.pv_node.specs.Standing.{Stands, StandsEither, StandsFor, DiskStands}
use Rattle.pv_node.specs.declared.rules.Rules as rules
use Rattle.pv_udc.specs.EditList.{EditList}
use Rattle.pv_udc.specs.declared.reply.UdcReply.{UdcReply}
use Rattle.pv_udc.specs.declared.request.UdcRequest.{UdcRequest}
use Rattle.pv_tape.specs.Laws.{lone_run, records_after_run}
use Rattle.pv_tape.specs.Loading.{wanted_records}
use Rattle.pv_tape.specs.Running.{IsFromHand, IsTapeRun, LeavesPart}
use Rattle.pv_tape.specs.Tape.{TapeEdit, IsTape}
use Rattle.pv_tape.specs.declared.end.TapeEnd.{TapeEnd}
use Rattle.pv_tape.specs.declared.end.TapeEnd.TheVariants as loading
use Rattle.pv_tape.specs.declared.head.Head.{Head}
use Rattle.pv_tape.proofs.CallerLemmas.{after_run, after_whole_run, whole_run}
use Rattle.pv_office.specs.Status.{tape_status}
use Rattle.pv_office.specs.Tapes.{HasStoredAll, EndsProgram, KeepsTape}
use Rattle.pv_office.specs.declared.status.OfficeStatus.{OfficeStatus}

-- a run that ended otherwise than with all edits stored ends the program with its own status, and nothing is written
pub ends_unwritten : {D F : Type 0} (end : TapeEnd D F) (known : Option (List ℕ)) (status : OfficeStatus D F)
    → ((stored skipped : ℕ) → end ≡ loading.Done stored skipped → ⊥) → status ≡ tape_status end
    → EndsProgram end known known status
ends_unwritten (loading.Done stored skipped) known status other is = absurd (other stored skipped refl)
ends_unwritten loading.ReadFault known status other is = (is, refl)
ends_unwritten loading.TooLong known status other is = (is, refl)
ends_unwritten (loading.BadTape line) known status other is = (is, refl)
ends_unwritten loading.NotKnown known status other is = (is, refl)
ends_unwritten (loading.Refused line code shown) known status other is = (is, refl)
ends_unwritten (loading.Full count) known status other is = (is, refl)
ends_unwritten (loading.DiskFault failure) known status other is = (is, refl)
ends_unwritten loading.Memory known status other is = (is, refl)

module _ {S D : Type 0} (r : rules.Ghosts S EditList UdcRequest Record UdcReply) (g : reports.Ghosts D)
    (stood : (state : EditList) (records : List Record) → r.stands state records → state.records ≡ records)
    (is_left : (disk : D) → IfSome (g.reads disk) (g.may_leave disk)) (disk : D) (opened loaded : Parts D EditList Record)
    (found : (records : List Record) → DiskStands r g disk records → StandsFor r g opened records) (free : opened.hand ≡ None) where
  -- a disk that reports what it reads, and whose images stand for records, stands for them
  disk_stands : (records : List Record) → EachImage g disk (λ image. Stands r image records) → IsSome (g.reads disk)
      → DiskStands r g disk records
  disk_stands records each known = by (g.reads disk) refl (is_left disk)
    where
      by : (reads : Option (List ℕ)) → g.reads disk ≡ reads → IfSome reads (g.may_leave disk) → DiskStands r g disk records
      by None is left = absurd (let no = subst (λ (o : Option (List ℕ)). IsSome o) is known in cc)
      by (Some text) is left = (text, is, each known text left)

  -- of a node that had nothing in hand only the records are left, without one more
  without_hand : (part : Option Record) → IsFromHand opened.hand part → part ≡ None
  without_hand part (inl none) = none
  without_hand part (inr same) = same ∙ free

  -- the node stands for one list of records
  same_records : (records : List Record) → StandsFor r g opened records → (others : List Record) → StandsFor r g opened others
      → records ≡ others
  same_records records stands others other = sym (stood opened.state records stands.state) ∙ stood opened.state others other.state

  module _ (head : Head) (edits : List TapeEdit) where
    -- these records and a prefix of what the tape asks for
    abbrev Left : List Record → List ℕ → Type 0
    Left records image = (n : ℕ) × Stands r image (records_after_run head edits records (lone_run n))

    none_left : (records : List Record) (image : List ℕ) → Stands r image records → Left records image
    none_left records image stands =
        (0, subst (λ (l : List Record). Stands r image l) (sym (append-nil records) ∙ after_run head edits records 0) stands)

    left_of_part : (records : List Record) (image : List ℕ) → (part : Option Record) × IsFromHand opened.hand part × (n : ℕ)
        × Stands r image (records_after_run head edits (records_with records part) (lone_run n))
        → Left records image
    left_of_part records image (part, from, n, stands) = (
      n,
      subst (λ (p : Option Record). Stands r image (records_after_run head edits (records_with records p) (lone_run n)))
          (without_hand part from) stands,
    )

    -- from the opening to the end of the run
    pub opened_leaves : (records : List Record) → StandsFor r g opened records
        → LeavesOnly g disk opened.journal.disk (g.may_leave disk) → LeavesPart r g opened loaded head edits
        → (others : List Record) → EachImage g disk (λ image. Stands r image others)
        → LeavesOnly g disk loaded.journal.disk (Left others)
    opened_leaves records stands opening leaves others each =
        let first = only_weaker g {old = disk} {new = opened.journal.disk} {P = g.may_leave disk} {Q = Left others}
        (λ known image left. none_left others image (each known image left)) opening in
        let second = only_weaker g {old = opened.journal.disk} {new = loaded.journal.disk}
        {P = λ image. (part : Option Record) × IsFromHand opened.hand part × (n : ℕ)
        × Stands r image (records_after_run head edits (records_with records part) (lone_run n))}
        {Q = Left others}
        (λ known image left.
        subst (λ (l : List Record). Left l image)
        (same_records records stands others (found others (disk_stands others each (opening.time.reported known))))
        (left_of_part records image left)) (leaves records stands) in
        only_then g {first = disk} {second = opened.journal.disk} {third = loaded.journal.disk} first second.time second.now

  -- ---- after the run

  module _ (first : List Record) (stands_first : StandsFor r g opened first)
      (opening : LeavesOnly g disk opened.journal.disk (g.may_leave disk)) (text : List ℕ)
      (leaves : (head : Head) (edits : List TapeEdit) → IsTape text head edits → LeavesPart r g opened loaded head edits) where
    pub opened_keeps : {F : Type 0} (left : Option (List ℕ)) (ended : Bool) (before now : ℕ) (end : TapeEnd D F)
        → IsTapeRun r g opened loaded text left ended before now end → HasStoredAll end → KeepsTape r g disk loaded.journal.disk text
    opened_keeps left ended before now (loading.Done stored skipped) run done =
        let head = run.1.0 in
        let edits = run.1.1 in
        let settled = run.1.4 in
        let part = settled.0 in
        let none = without_hand part settled.1 in (
          head,
          edits,
          run.1.2,
          λ records each. (
            length (wanted_records records head edits),
            whole_run head edits records,
            λ known image is_image.
                let reported = opening.time.reported ((leaves head edits run.1.2 first stands_first).time.reported known) in
                let stands = found records (disk_stands records each reported) in
                let gained = settled.2.gained records stands in
                let same : records_with opened.state.records part ≡ records_with records part =
                ap (λ (l : List Record). records_with l part) (stood opened.state records stands.state) in
                let either = gained.images known image is_image in
                let alone = subst (λ (hand : Option Record). StandsEither r
                (records_with records part ++ wanted_records (records_with opened.state.records part) head edits) hand image)
                settled.2.hand either in
                let those = subst (λ (l : List Record). Stands r image (records_with records part ++ wanted_records l head edits)) same alone in
                let all = subst (λ (p : Option Record). Stands r image
                (records_with records p ++ wanted_records (records_with records p) head edits)) none those in
                subst (λ (l : List Record). Stands r image l) (after_whole_run head edits records) all,
          ),
        )
    opened_keeps left ended before now loading.ReadFault run done = absurd done
    opened_keeps left ended before now loading.TooLong run done = absurd done
    opened_keeps left ended before now (loading.BadTape line) run done = absurd done
    opened_keeps left ended before now loading.NotKnown run done = absurd done
    opened_keeps left ended before now (loading.Refused line code shown) run done = absurd done
    opened_keeps left ended before now (loading.Full count) run done = absurd done
    opened_keeps left ended before now (loading.DiskFault failure) run done = absurd done
    opened_keeps left ended before now loading.Memory run done = absurd done
