-- How a run of a tape ends, and what a crash at any moment of it leaves.
use Rattle.std.specs.Prelude.{◌≡◌, ◌⊎◌, ℕ, ◌+◌, ◌<◌, ◌≤◌, Bool, true, false, List, [], ◌++◌, length, Option, None}
use Rattle.pv_outside.specs.Counts.{Rose}
use Rattle.pv_outside.specs.declared.reports.Reports as reports
use Rattle.pv_journal.specs.Journal.{LeavesOnly}
use Rattle.pv_edits.specs.Edits.{account_at}
use Rattle.pv_edits.specs.declared.record.Record.{Record}
use Rattle.pv_node.specs.Asking.{IsUnsettled, records_with}
use Rattle.pv_node.specs.Parts.{Parts}
use Rattle.pv_node.specs.Standing.{Stands, StandsFor}
use Rattle.pv_node.specs.declared.rules.Rules as rules
use Rattle.pv_udc.specs.EditList.{EditList}
use Rattle.pv_udc.specs.Judgement.{next_number}
use Rattle.pv_udc.specs.declared.reply.UdcReply.{UdcReply}
use Rattle.pv_udc.specs.declared.request.UdcRequest.{UdcRequest}
use Rattle.pv_editor.specs.Say.{is_password}
use Rattle.pv_input.specs.Reading.{IsReadWhole}
use Rattle.pv_tape.specs.Laws.{lone_run, records_after_run}
use Rattle.pv_tape.specs.Loading.{IsLoadEnd, IsTooHigh}
use Rattle.pv_tape.specs.Tape.{TapeEdit, IsTape, IsBadAt}
use Rattle.pv_tape.specs.declared.end.TapeEnd.{TapeEnd}
use Rattle.pv_tape.specs.declared.end.TapeEnd.TheVariants.{ReadFault, TooLong, BadTape, NotKnown, DiskFault, Memory}
use Rattle.pv_tape.specs.declared.head.Head.{Head}
use Rattle.pv_input.specs.declared.text.TheConstants.{LONGEST_TEXT}

-- the record that was in hand, or none
abbrev pub IsFromHand : Option Record → Option Record → Type 0
IsFromHand hand part = (part ≡ None) ⊎ (part ≡ hand)

-- there is such an account at these records, with this password
abbrev pub is_known : List Record → Head → Bool
is_known records head = is_password (account_at records head.account) head.password

module _ {S D : Type 0} (r : rules.Ghosts S EditList UdcRequest Record UdcReply) (g : reports.Ghosts D)
    (old new : Parts D EditList Record) where
  -- A crash at any moment of the run leaves what the law of runs speaks of: the records that there were, perhaps with the one that was
  -- in hand, and after them a prefix of the edits. These are the tape's whose numbers are above the account's last.
  abbrev pub LeavesPart : Head → List TapeEdit → Type 0
  LeavesPart head edits = (records : List Record) → StandsFor r g old records
      → LeavesOnly g old.journal.disk new.journal.disk (λ image. (part : Option Record) × IsFromHand old.hand part × (n : ℕ)
      × Stands r image (records_after_run head edits (records_with records part) (lone_run n)))

  -- What the node stands for after the run is what the law of runs speaks of, whether the record that is in hand then is found stored
  -- or not.
  abbrev pub StandsAfterRun : Head → List TapeEdit → Type 0
  StandsAfterRun head edits = (records : List Record) → StandsFor r g old records → (now : List Record) × StandsFor r g new now
      × ((later : Option Record) → IsFromHand new.hand later → (part : Option Record) × IsFromHand old.hand part × (n : ℕ)
      × (records_with now later ≡ records_after_run head edits (records_with records part) (lone_run n)))

  -- the node stands for the records that there were, with this one, and for these after them
  abbrev pub GainsAfter : Option Record → List Record → Type 0
  GainsAfter part more = (records : List Record) → StandsFor r g old records → StandsFor r g new (records_with records part ++ more)

  -- The record that was in hand was settled: it is stored, or it is not. The asking for the edits of a tape began after that. If the
  -- tape's first number is above the account's next then, its first edit is refused.
  abbrev pub IsSettledEnd : {F : Type 0} → Head → List TapeEdit → TapeEnd D F → Type 0
  IsSettledEnd head edits end = (part : Option Record) × IsFromHand old.hand part
      × IsLoadEnd g old.journal.disk new (GainsAfter part) (records_with old.state.records part) head edits end
      × (next_number (records_with old.state.records part) head.account < head.first
      → IsTooHigh (records_with old.state.records part) head edits end)

  -- how a run of the edits of a tape ends: a call of the disk may also fail in the settling
  abbrev pub IsEditsEnd : {F : Type 0} → Head → List TapeEdit → TapeEnd D F → Type 0
  IsEditsEnd head edits (DiskFault failure) =
      (IsUnsettled r g old new × Rose (g.faults old.journal.disk) (g.faults new.journal.disk)) ⊎ IsSettledEnd head edits (DiskFault failure)
  IsEditsEnd head edits end = IsSettledEnd head edits end

  -- How a run of a text ends. A bad line is the text's first. A tape of an unknown account does nothing.
  abbrev pub IsTextRun : {F : Type 0} → List ℕ → TapeEnd D F → Type 0
  IsTextRun text (BadTape line) = IsBadAt text line × (new ≡ old)
  IsTextRun text NotKnown = (head : Head) × (edits : List TapeEdit) × IsTape text head edits
      × (is_known old.state.records head ≡ false) × (new ≡ old)
  IsTextRun text end = (head : Head) × (edits : List TapeEdit) × IsTape text head edits
      × (is_known old.state.records head ≡ true) × IsEditsEnd head edits end

  -- How a run ends that read this text. If it could not be read whole, nothing was done.
  abbrev pub IsTapeRun : {F : Type 0} → List ℕ → Option (List ℕ) → Bool → ℕ → ℕ → TapeEnd D F → Type 0
  IsTapeRun text left ended before now ReadFault = (length text ≤ LONGEST_TEXT) × Rose before now × (new ≡ old)
  IsTapeRun text left ended before now TooLong = (length text ≡ LONGEST_TEXT + 1) × (new ≡ old)
  IsTapeRun text left ended before now Memory = (text ≡ []) × (new ≡ old)
  IsTapeRun text left ended before now end = IsReadWhole text left ended × IsTextRun text end
