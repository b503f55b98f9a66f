-- A centre applies the records that it lacks, one after the other, as long as they have room.
use Rattle.std.proofs.Common.{◌≡◌, ℕ, ◌+◌, ◌-◌, ◌<◌, ◌≤◌, Bool, true, false, List, ◌∷◌, length, Some, None, Ok, Err, refl, sym, ap, subst, ◌∙◌, arith}
use Rattle.std.specs.Prelude.{slice_get}
use Rattle.std.proofs.lemmas.Option.{slice_get_within}
use Rattle.pv_outside.specs.declared.reports.Reports as reports
use Rattle.pv_journal.specs.Journal.{LeavesOnly}
use Rattle.pv_edits.specs.declared.record.Record.{Record}
use Rattle.pv_node.specs.Asking.{CarriesOut, AskLeaves, HasStored, IsTaken}
use Rattle.pv_node.specs.Parts.{Parts}
use Rattle.pv_node.specs.Standing.{StandsFor}
use Rattle.pv_node.specs.declared.decision.Decision.{Decision}
use Rattle.pv_node.specs.declared.decision.Told.{Told}
use Rattle.pv_node.specs.declared.fault.AskFault.TheVariants.{Disk}
use Rattle.pv_node.specs.declared.rules.Rules as rules
use Rattle.pv_udc.specs.Replies.{down_of}
use Rattle.pv_irc.specs.Deciding.{down_fits}
use Rattle.pv_irc.specs.History.{CentreState, with_centre_record}
use Rattle.pv_irc.specs.declared.record.CentreRecord.{CentreRecord}
use Rattle.pv_irc.specs.declared.reply.IrcReply.{IrcReply}
use Rattle.pv_irc.specs.declared.reply.IrcReply.TheVariants.{Applied, NoRoom}
use Rattle.pv_irc.specs.declared.request.IrcRequest.{IrcRequest}
use Rattle.pv_closing.specs.Bringing.{LeavesNext, IsAskStop, LeavesFirst, IsBroughtTo, HasAdded}
use Rattle.pv_closing.specs.Lacking.{apply_record, lacked_records}
use Rattle.pv_closing.specs.declared.rest_end.RestEnd.{RestEnd}
use Rattle.pv_closing.proofs.Asked.{asked_leaves, was_stored, was_taken, was_answered}
use Rattle.pv_closing.proofs.Bringing.{IsGoing, going_next, going_stopped, going_last, moments_next}
use Rattle.pv_closing.proofs.Lacking.{decided_by, records_next, records_none, applied_next}
use Rattle.pv_closing.proofs.Lists.{length_below}

-- ---- a record

module _ {S D : Type 0} (r : rules.Ghosts S CentreState IrcRequest CentreRecord IrcReply) (g : reports.Ghosts D)
    (old new : Parts D CentreState CentreRecord) (edit : Record) (request : IrcRequest)
    (judged : (fits : Bool) → down_fits old.state (down_of edit) ≡ fits
    → r.judgement old.state request ≡ decided_by old.state fits (down_of edit)) where
  -- the record that comes next
  abbrev next_record : CentreRecord
  next_record = apply_record old.state.applied edit

  -- unless it was answered that there is no room, it is stored
  pub record_stored : (F : Type 0) (told : Told IrcReply)
      → CarriesOut r g {F = F} (r.judgement old.state request) old new (Ok told)
      → ((place : ℕ) → told.reply ≡ NoRoom place → ⊥) → HasStored r g old new next_record
  record_stored F told carried other = by (down_fits old.state (down_of edit)) refl
    where
      by : (fits : Bool) → down_fits old.state (down_of edit) ≡ fits → HasStored r g old new next_record
      by true is = was_stored r g old new next_record F (r.judgement old.state request) Applied told (judged true is) carried
      by false is =
          let was = was_answered r g old new next_record F (r.judgement old.state request) (NoRoom old.state.applied) told
          (judged false is) carried in
          absurd (other old.state.applied was.1)

  -- it was to be stored, and a call of the disk failed
  pub record_in_hand : {F : Type 0} (failure : F)
      → CarriesOut r g {F = F} (r.judgement old.state request) old new (Err (Disk failure)) → IsTaken r g old new next_record
  record_in_hand {F = F} failure carried = by (down_fits old.state (down_of edit)) refl
    where
      by : (fits : Bool) → down_fits old.state (down_of edit) ≡ fits → IsTaken r g old new next_record
      by true is = was_taken r g old new next_record {F = F} (r.judgement old.state request) Applied failure (judged true is) carried
      by false is =
          let answered = subst (λ (d : Decision CentreRecord IrcReply). CarriesOut r g {F = F} d old new (Err (Disk failure)))
          (judged false is) carried in
          absurd (let no = answered.0 in cc)

  -- a crash leaves the records, perhaps with it
  pub record_leaves : old.hand ≡ None → ((records : List CentreRecord) → StandsFor r g old records
      → LeavesOnly g old.journal.disk new.journal.disk (AskLeaves r g request old records))
      → LeavesNext r g old new next_record
  record_leaves none moments = by (down_fits old.state (down_of edit)) refl
    where
      by : (fits : Bool) → down_fits old.state (down_of edit) ≡ fits → LeavesNext r g old new next_record
      by true is =
          asked_leaves r g old new request next_record (decided_by old.state true (down_of edit)) (judged true is) none refl moments
      by false is =
          asked_leaves r g old new request next_record (decided_by old.state false (down_of edit)) (judged false is) none tt moments

-- ---- all records

module _ {S D : Type 0} (r : rules.Ghosts S CentreState IrcRequest CentreRecord IrcReply) (g : reports.Ghosts D)
    (after : (state : CentreState) (rec : CentreRecord) (place : ℕ) → r.after state rec place ≡ with_centre_record state rec)
    (edits : List Record) (old now : Parts D CentreState CentreRecord) where
  -- what is lacked now is still to come
  abbrev Going : Parts D CentreState CentreRecord → Type 0
  Going node = IsGoing r g old (lacked_records edits old.state) node (lacked_records edits node.state)

  -- the record that comes next
  abbrev next : Record → CentreRecord
  next edit = apply_record now.state.applied edit

  module _ (going : Going now) (edit : Record) (there : slice_get edits now.state.applied ≡ Some edit)
      (new : Parts D CentreState CentreRecord) where
    -- it comes first of what is lacked
    going_at : IsGoing r g old (lacked_records edits old.state) now
        (next edit ∷ lacked_records edits (with_centre_record now.state (next edit)))
    going_at = subst (IsGoing r g old (lacked_records edits old.state) now) (records_next now.state edits edit there) going

    pub edit_leaves : LeavesNext r g now new (next edit) → LeavesFirst r g old new (lacked_records edits old.state)
    edit_leaves asked = moments_next r g old (lacked_records edits old.state) now new (next edit)
        (lacked_records edits (with_centre_record now.state (next edit))) going_at asked

    pub edit_applied : HasStored r g now new (next edit) → LeavesNext r g now new (next edit)
        → g.faults now.journal.disk ≤ g.faults new.journal.disk → Going new
    edit_applied stored asked counted =
        let state : new.state ≡ with_centre_record now.state (next edit) =
        stored.state ∙ after now.state (next edit) now.journal.count in
        subst (λ (s : CentreState). IsGoing r g old (lacked_records edits old.state) new (lacked_records edits s)) (sym state)
        (going_next r g old (lacked_records edits old.state) now new (next edit)
        (lacked_records edits (with_centre_record now.state (next edit))) going_at stored asked counted)

    -- one more is applied, so fewer are left
    pub edit_fewer : HasStored r g now new (next edit)
        → length edits - new.state.applied < length edits - now.state.applied
    edit_fewer stored =
        let state : new.state ≡ with_centre_record now.state (next edit) =
        stored.state ∙ after now.state (next edit) now.journal.count in
        let one : new.state.applied ≡ now.state.applied + 1 =
        ap (λ (s : CentreState). s.applied) state ∙ applied_next now.state (down_of edit) in
        let within = slice_get_within edits now.state.applied edit there in
        omega (arith, one, within)

    pub edit_stopped : {F : Type 0} (end : RestEnd D F) → IsAskStop r g now new (next edit) end
        → IsBroughtTo r g old new None (lacked_records edits old.state) end
    edit_stopped {F = F} end stop = going_stopped r g old (lacked_records edits old.state) now new (next edit)
        (lacked_records edits (with_centre_record now.state (next edit))) going_at {F = F} end stop

  -- none is left
  pub edits_brought : Going now → slice_get edits now.state.applied ≡ None
      → HasAdded r g old now None (lacked_records edits old.state) × (now.hand ≡ None)
  edits_brought going none = going_last r g old (lacked_records edits old.state) now (lacked_records edits now.state)
      (records_none now.state edits none) going

  pub edits_all : slice_get edits now.state.applied ≡ None → length edits ≤ now.state.applied
  edits_all none = length_below edits now.state.applied none
