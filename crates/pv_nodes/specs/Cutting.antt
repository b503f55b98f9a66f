-- A node that stops within an ask: its disk passes some more calls and then none, and the node is opened again from what a crash
-- leaves.
use Rattle.std.specs.Prelude.{◌≡◌, ◌⊎◌, ℕ, ◌+◌, ◌<◌, ◌≤◌, ◌==◌, Bool, if◌then◌else◌, List, [], ◌∷◌, ◌++◌, Option, Some, None}
use Rattle.pv_outside.specs.declared.limits.Limits.{Limits}
use Rattle.pv_journal.specs.Journal.{HasLeft}
use Rattle.pv_memory.specs.Medium.{Medium, budget_of, image_of}
use Rattle.pv_memory.specs.contracts.disk.MemDiskReports.TheImpl as memory
use Rattle.pv_node.specs.Asking.{records_with}
use Rattle.pv_node.specs.Parts.{Parts}
use Rattle.pv_node.specs.Standing.{Meets, DiskStands, StandsFor}
use Rattle.pv_node.specs.declared.rules.Rules as rules
use Rattle.pv_nodes.specs.declared.cut.Cut.{Cut}
use Rattle.pv_nodes.specs.declared.cut.Cut.TheVariants.{NotStored, Kept, Lost}
use Rattle.pv_journal.specs.declared.storing.TheConstants.{APPEND_CALLS, GATE_CALLS}

-- what became of a record, if one was to be stored, by how many there were and are
abbrev pub cut_by : Bool → ℕ → ℕ → Cut
cut_by stores before after = if stores then (if after == before then Lost else Kept) else NotStored

module _ {Rec : Type 0} where
  -- What may have become of it, if this many calls of the disk passed: it may be lost as long as not all did that an append makes, and
  -- kept from the write of the gate on.
  abbrev pub MayBecome : ℕ → Option Rec → Cut → Type 0
  MayBecome calls None NotStored = Unit {0}
  MayBecome calls (Some rec) Lost = calls < APPEND_CALLS
  MayBecome calls (Some rec) Kept = GATE_CALLS ≤ calls
  MayBecome calls _ _ = ⊥

  -- the record, if it is kept
  abbrev pub kept_record : Option Rec → Cut → Option Rec
  kept_record stored NotStored = None
  kept_record stored Kept = stored
  kept_record stored Lost = None

-- A stop of a node with this disk: an ask is made on a disk of the same bytes, of which this many more calls pass; and the text is the image
-- of this number of the disk that it leaves.
pub record IsStop (calls image : ℕ) (disk : Medium) (text : List ℕ) : Type 0 where
  pub begun : Medium
  pub stopped : Medium
  pub bytes : begun.text ≡ disk.text
  pub left : HasLeft calls (budget_of begun)
  pub passed : stopped.clock ≤ begun.clock + calls
  pub image_is : text ≡ image_of stopped image

module _ {S State Request Rec Reply : Type 0} (r : rules.Ghosts S State Request Rec Reply) where
  -- the disk stands for these records, and they meet the limits
  pub record IsLeftWith (limits : Limits) (disk : Medium) (records : List Rec) : Type 0 where
    pub stands : DiskStands r memory.ghosts disk records
    pub meets : Meets r limits records

  -- what a disk stands for after a stop, where it stood for these records before: for them, or for them and the one that was to
  -- be stored
  abbrev pub IsLeft : ℕ → Option Rec → Limits → Medium → List Rec → Type 0
  IsLeft calls None limits disk records = IsLeftWith limits disk records
  IsLeft calls (Some rec) limits disk records =
      (IsLeftWith limits disk records × (calls < APPEND_CALLS))
      ⊎ (IsLeftWith limits disk (records ++ rec ∷ []) × (GATE_CALLS ≤ calls))

  -- the node that was opened again: what became of the record that was to be stored, if one was, and what it stands for
  pub record IsCut (calls : ℕ) (stored : Option Rec) (cut : Cut) (old new : Parts Medium State Rec) : Type 0 where
    pub may : MayBecome calls stored cut
    pub limits : r.limits_of new.state ≡ r.limits_of old.state
    pub stands : (records : List Rec) → StandsFor r memory.ghosts old records
        → StandsFor r memory.ghosts new (records_with records (kept_record stored cut))
