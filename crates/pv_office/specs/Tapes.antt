-- What `tape` makes of a disk, and what it writes.
use Rattle.std.specs.Prelude.{◌≡◌, ◌⊎◌, ℕ, ◌+◌, Bool, List, ◌++◌, take, codes, decimal, Option, None, IfSome}
use Rattle.std.specs.Io.KnownBytes.{Appends}
use Rattle.pv_outside.specs.declared.limits.Limits.{Limits}
use Rattle.pv_outside.specs.declared.limits.TheConstants.{MAX_FRAMES, MAX_RECORDS}
use Rattle.pv_outside.specs.declared.reports.Reports as reports
use Rattle.pv_journal.specs.Journal.{EachImage, LeavesOnly, ReadsOnly}
use Rattle.pv_edits.specs.declared.record.Record.{Record}
use Rattle.pv_node.specs.Opening.{IsOpenFault, IsOpenDiskFault, FaultShows}
use Rattle.pv_node.specs.Parts.{Parts}
use Rattle.pv_node.specs.Standing.{Stands, StandsFor, DiskStands}
use Rattle.pv_node.specs.declared.fault.NodeFault.{NodeFault}
use Rattle.pv_node.specs.declared.rules.Rules as rules
use Rattle.pv_udc.specs.EditList.{EditList}
use Rattle.pv_udc.specs.declared.reply.UdcReply.{UdcReply}
use Rattle.pv_udc.specs.declared.request.UdcRequest.{UdcRequest}
use Rattle.pv_input.specs.Reading.{HasRead}
use Rattle.pv_tape.specs.Laws.{lone_run, IsWhole, records_after_run}
use Rattle.pv_tape.specs.Running.{IsTapeRun, LeavesPart}
use Rattle.pv_tape.specs.Tape.{TapeEdit, IsTape}
use Rattle.pv_tape.specs.declared.end.TapeEnd.{TapeEnd}
use Rattle.pv_tape.specs.declared.end.TapeEnd.TheVariants as loading
use Rattle.pv_tape.specs.declared.head.Head.{Head}
use Rattle.pv_office.specs.Status.{open_status, tape_status}
use Rattle.pv_office.specs.declared.status.OfficeStatus.{OfficeStatus}
use Rattle.pv_office.specs.declared.status.OfficeStatus.TheVariants.{Done, WriteFault}

-- the line that is written once all edits of a tape are stored
abbrev pub counts_text : ℕ → ℕ → List ℕ
counts_text stored skipped = codes "stored " ++ decimal stored ++ codes " skipped " ++ decimal skipped ++ codes "\n"

-- what the source of a tape and the output report, before a run and after it
pub record Streams : Type 0 where
  pub taken_before : Option (List ℕ)
  pub taken_now : Option (List ℕ)
  pub left_before : Option (List ℕ)
  pub left_now : Option (List ℕ)
  pub ended : Bool
  pub faults_before : ℕ
  pub faults_now : ℕ
  pub written_before : Option (List ℕ)
  pub written_now : Option (List ℕ)

module _ {D F : Type 0} where
  -- all edits of the tape are stored
  abbrev pub HasStoredAll : TapeEnd D F → Type 0
  HasStoredAll (loading.Done stored skipped) = Unit {0}
  HasStoredAll end = ⊥

  -- How the program ends after a run that ended so, and what it wrote: the counts if all is stored, or a prefix of them; else nothing.
  abbrev pub EndsProgram : TapeEnd D F → Option (List ℕ) → Option (List ℕ) → OfficeStatus D F → Type 0
  EndsProgram (loading.Done stored skipped) before now Done = Appends before now (counts_text stored skipped)
  EndsProgram (loading.Done stored skipped) before now WriteFault = (n : ℕ) × Appends before now (take n (counts_text stored skipped))
  EndsProgram (loading.Done stored skipped) before now status = ⊥
  EndsProgram end before now status = (status ≡ tape_status end) × (now ≡ before)

module _ {S D : Type 0} (r : rules.Ghosts S EditList UdcRequest Record UdcReply) (g : reports.Ghosts D) where
  -- A node ran the tape of this text: how that ended, and what a crash at any moment of it leaves.
  pub record LoadsTape {F : Type 0} (old new : Parts D EditList Record) (s : Streams) (status : OfficeStatus D F) (text : List ℕ)
      : Type 0 where
    pub read : HasRead s.taken_before s.taken_now s.left_before s.left_now text
    pub end : TapeEnd D F
    pub runs : IsTapeRun r g old new text s.left_before s.ended s.faults_before s.faults_now end
    pub ends : EndsProgram end s.written_before s.written_now status
    pub leaves : (head : Head) (edits : List TapeEdit) → IsTape text head edits → LeavesPart r g old new head edits

  module _ (disk new : D) where
    -- each image that a crash may leave of the disk stands for these records
    abbrev StoodFor : List Record → Type 0
    StoodFor records = EachImage g disk (λ image. Stands r image records)

    -- If the disk stood for these records, a crash at any moment leaves what the law of runs speaks of: the records, and after them a
    -- prefix of the edits. These are the tape's whose numbers are above the account's last.
    abbrev pub LeavesTape : List ℕ → Type 0
    LeavesTape text = (head : Head) (edits : List TapeEdit) (records : List Record) → IsTape text head edits → StoodFor records
        → LeavesOnly g disk new (λ image. (n : ℕ) × Stands r image (records_after_run head edits records (lone_run n)))

    -- and once all is done, a crash leaves those of a whole run
    abbrev pub KeepsTape : List ℕ → Type 0
    KeepsTape text = (head : Head) × (edits : List TapeEdit) × IsTape text head edits
        × ((records : List Record) → StoodFor records → (n : ℕ) × IsWhole head edits records (lone_run n)
        × EachImage g new (λ image. Stands r image (records_after_run head edits records (lone_run n))))

    -- the disk was opened as a node, and this one ran the tape
    pub record LoadsFrom {F : Type 0} (s : Streams) (status : OfficeStatus D F) (text : List ℕ) : Type 0 where
      pub opened : Parts D EditList Record
      pub loaded : Parts D EditList Record
      pub found : (records : List Record) → DiskStands r g disk records → StandsFor r g opened records
      pub free : opened.hand ≡ None
      pub loads : LoadsTape opened loaded s status text
      pub disk_is : new ≡ loaded.journal.disk
      pub leaves : LeavesTape text
      pub keeps : HasStoredAll loads.end → KeepsTape text

    -- The disk could not be opened with room for as many frames and records as any node may have, for this fault. On a disk that
    -- reports its bytes these show why.
    pub record IsNotOpened {F : Type 0} (status : OfficeStatus D F) : Type 0 where
      pub limits : Limits
      pub frames : limits.frames ≡ MAX_FRAMES
      pub records : limits.records ≡ MAX_RECORDS
      pub fault : NodeFault D F
      pub status_is : status ≡ open_status fault
      pub cause : IsOpenFault limits fault
      pub shown : IfSome (g.reads disk) (λ text. FaultShows r limits text fault)
      pub reads_only : ReadsOnly g (MAX_RECORDS + 4) (IsOpenDiskFault fault) disk new
      pub leaves : LeavesOnly g disk new (g.may_leave disk)

    -- How a tape ends that was asked for: the disk could not be opened, and nothing was read or written; or a text was read, and run.
    abbrev pub IsTapeEnd : {F : Type 0} → Type 0 → Streams → OfficeStatus D F → Type 0
    IsTapeEnd Untouched s status = (IsNotOpened status × Untouched) ⊎ ((text : List ℕ) × LoadsFrom s status text)
