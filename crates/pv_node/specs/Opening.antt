-- How a node is opened, and when it is not.
use Rattle.std.specs.Prelude.{◌≡◌, ◌≢◌, ℕ, ◌<◌, List, [], ◌∷◌, ◌++◌, length, map, drop, All, Result, Ok, Err}
use Rattle.pv_outside.specs.declared.reports.Reports as reports
use Rattle.pv_outside.specs.declared.limits.Limits.{Limits}
use Rattle.pv_journal.specs.Text.{text_of, first_eight, HasBlock, HasBrokenBlock}
use Rattle.pv_journal.specs.Log.{Log}
use Rattle.pv_journal.specs.Journal.{IsReading, Holds}
use Rattle.pv_journal.specs.declared.block.TheConstants.{MARK}
use Rattle.pv_journal.specs.declared.fault.OpenFault.{OpenFault}
use Rattle.pv_journal.specs.declared.fault.OpenFault.TheVariants as journal
use Rattle.pv_node.specs.declared.rules.Rules as rules
use Rattle.pv_node.specs.Standing.{Meets, DiskStands}
use Rattle.pv_node.specs.declared.fault.NodeFault.{NodeFault}
use Rattle.pv_node.specs.declared.fault.NodeFault.TheVariants.{Memory, Disk, NotFormatted, Broken, TooMany, Unreadable}

module _ {D F : Type 0} where
  -- a journal's fault, as a node's
  abbrev pub fault_of : OpenFault D F → NodeFault D F
  fault_of (journal.Disk failure) = Disk failure
  fault_of (journal.NotFormatted kept) = NotFormatted kept
  fault_of (journal.Broken at) = Broken at
  fault_of (journal.TooMany count) = TooMany count

  -- a call of the disk failed in the opening
  abbrev pub IsOpenDiskFault : NodeFault D F → Type 0
  IsOpenDiskFault (Disk failure) = Unit {0}
  IsOpenDiskFault _ = ⊥

  -- a reading ended at a call of the disk that failed
  abbrev pub ReadingFails : {T : Type 0} → Result T (NodeFault D F) → Type 0
  ReadingFails (Ok value) = ⊥
  ReadingFails (Err fault) = IsOpenDiskFault fault

  -- an allocation or a call of the disk failed: what is on the disk has no part in it
  abbrev pub IsOutside : NodeFault D F → Type 0
  IsOutside Memory = Unit {0}
  IsOutside (Disk failure) = Unit {0}
  IsOutside _ = ⊥

  -- no allocation failed
  abbrev pub IsNotMemory : NodeFault D F → Type 0
  IsNotMemory Memory = ⊥
  IsNotMemory _ = Unit {0}

  -- what is known of a fault, whatever the disk reports
  abbrev pub IsOpenFault : Limits → NodeFault D F → Type 0
  IsOpenFault limits Memory = Unit {0}
  IsOpenFault limits (Disk failure) = Unit {0}
  IsOpenFault limits (NotFormatted kept) = kept ≢ MARK
  IsOpenFault limits (Broken at) = Unit {0}
  IsOpenFault limits (TooMany count) = count ≡ limits.records
  IsOpenFault limits (Unreadable number) = number < limits.records

module _ {S State Request Rec Reply : Type 0} (r : rules.Ghosts S State Request Rec Reply) where
  -- no record that has room in the state is spelled so
  abbrev pub IsUnreadable : State → List ℕ → Type 0
  IsUnreadable state body = (rec : Rec) → r.is_record rec → r.spelling rec ≡ body → r.fits state rec → ⊥

  -- the place after these records, where a gate is
  abbrev pub gate_after : List Rec → ℕ
  gate_after records = length (text_of (map r.spelling records))

  -- The bytes begin with these records: they meet these limits, each of them having had room, and this state of these limits
  -- stands for them.
  pub record Begins (limits : Limits) (text : List ℕ) (records : List Rec) (state : State) : Type 0 where
    pub begins : text ≡ text_of (map r.spelling records) ++ drop (gate_after records) text
    pub each : All r.is_record records
    pub meets : Meets r limits records
    pub stood : r.stands state records
    pub limited : r.limits_of state ≡ limits

  -- what comes after the records, if there is this fault, on a disk of these bytes
  abbrev pub StopShows : {D F : Type 0} → Limits → List ℕ → List Rec → State → NodeFault D F → Type 0
  StopShows limits text records state Memory = Unit {0}
  StopShows limits text records state (Disk failure) = Unit {0}
  StopShows limits text records state (NotFormatted kept) = ⊥
  StopShows limits text records state (Broken at) = (at ≡ gate_after records) × HasBrokenBlock (drop (gate_after records) text)
  StopShows limits text records state (TooMany count) =
      (body : List ℕ) × HasBlock (drop (gate_after records) text) body × (length records ≡ limits.records)
  StopShows limits text records state (Unreadable number) =
      (body : List ℕ) × HasBlock (drop (gate_after records) text) body × (length records ≡ number) × IsUnreadable state body

  -- What the bytes of a disk show, if there is this fault: they do not begin with the mark; or they begin with some records, and
  -- what comes after these is what the fault says.
  abbrev pub FaultShows : {D F : Type 0} → Limits → List ℕ → NodeFault D F → Type 0
  FaultShows limits text Memory = Unit {0}
  FaultShows limits text (Disk failure) = Unit {0}
  FaultShows limits text (NotFormatted kept) = (kept ≡ first_eight text) × (first_eight text ≢ MARK)
  FaultShows limits text fault =
      (records : List Rec) × (state : State) × Begins limits text records state × StopShows limits text records state fault

module _ {S State Request Rec Reply D : Type 0} (r : rules.Ghosts S State Request Rec Reply) (g : reports.Ghosts D) where
  -- the journal was read so far, and the state stands for the records that were read
  pub record HasRead (log : Log D) (state : State) (records : List Rec) : Type 0 where
    pub journal : IsReading g log (map r.spelling records)
    pub each : All r.is_record records
    pub meets : Meets r (r.limits_of state) records
    pub stood : r.stands state records

  -- all records of the journal were read
  pub record HasAll (log : Log D) (state : State) (records : List Rec) : Type 0 where
    pub journal : Holds g log (map r.spelling records)
    pub each : All r.is_record records
    pub meets : Meets r (r.limits_of state) records
    pub stood : r.stands state records

  -- if the disk stands for records that begin with these, the next one is this
  abbrev pub ComesNext : D → List Rec → Rec → Type 0
  ComesNext disk records rec = (more : List Rec) → DiskStands r g disk (records ++ more)
      → (others : List Rec) × (more ≡ rec ∷ others)

  -- if the disk stands for records that begin with these, these are all
  abbrev pub AreAll : D → List Rec → Type 0
  AreAll disk records = (more : List Rec) → DiskStands r g disk (records ++ more) → more ≡ []
