-- What a node over a disk in memory is, what is answered at it, and what opens again.
use Rattle.std.specs.Prelude.{◌≡◌, ℕ, nat_le, if◌then◌else◌, List, Option, Some, None, Result, Ok, Err}
use Rattle.pv_outside.specs.Disk.{IsEndless}
use Rattle.pv_outside.specs.declared.limits.Limits.{Limits}
use Rattle.pv_memory.specs.Medium.{Medium, budget_of}
use Rattle.pv_memory.specs.contracts.disk.MemDiskReports.TheImpl as memory
use Rattle.pv_journal.specs.Log.{longest}
use Rattle.pv_node.specs.Parts.{Parts}
use Rattle.pv_node.specs.Standing.{Meets, DiskStands, StandsFor}
use Rattle.pv_node.specs.declared.decision.Decision.{Decision}
use Rattle.pv_node.specs.declared.decision.Decision.TheVariants.{Answer, Store}
use Rattle.pv_node.specs.declared.decision.Told.{Told}
use Rattle.pv_node.specs.declared.rules.Rules as rules

-- ---- what is answered

module _ {Rec Reply : Type 0} where
  -- What is answered of a decision, at a node that has `count` records of at most `limit`: the reply, with the place of the record if
  -- one is stored; or the count, if the node is full and a record was to be stored.
  abbrev pub told_of : ℕ → ℕ → Decision Rec Reply → Result (Told Reply) ℕ
  told_of limit count (Answer reply) = Ok (record { reply = reply; number = None })
  told_of limit count (Store rec reply) =
      if nat_le limit count then Err count else Ok (record { reply = reply; number = Some count })

  -- the record that is stored: none at a full node
  abbrev pub stored_of : ℕ → ℕ → Decision Rec Reply → Option Rec
  stored_of limit count (Answer reply) = None
  stored_of limit count (Store rec reply) = if nat_le limit count then None else Some rec

-- ---- the node

module _ {S State Request Rec Reply : Type 0} (r : rules.Ghosts S State Request Rec Reply) where
  -- the state with the record that is stored, if one is
  abbrev pub state_with : State → Option Rec → State
  state_with state None = state
  state_with state (Some rec) = r.after state rec (r.count_of state)

  -- there are records for which the node stands, and with it each image that a crash of its disk may leave
  abbrev pub HasRecords : Parts Medium State Rec → Type 0
  HasRecords node = (records : List Rec) × StandsFor r memory.ghosts node records

  -- The node stands for its records and has none in hand. Its disk has room for as many as there may be, and no call of it fails.
  pub record IsMemNode (node : Parts Medium State Rec) : Type 0 where
    pub stands : HasRecords node
    pub hand : node.hand ≡ None
    pub endless : IsEndless (longest (r.limits_of node.state).records) (budget_of node.journal.disk)

  -- the disk stands for records that meet these limits, has room for as many as these allow, and no call of it fails
  pub record IsReady (limits : Limits) (disk : Medium) : Type 0 where
    pub records : List Rec
    pub stands : DiskStands r memory.ghosts disk records
    pub meets : Meets r limits records
    pub endless : IsEndless (longest limits.records) (budget_of disk)

  -- a node of the same limits, which stands for all that this one stood for
  pub record OpensAgain (old new : Parts Medium State Rec) : Type 0 where
    pub limits : r.limits_of new.state ≡ r.limits_of old.state
    pub stands : (records : List Rec) → StandsFor r memory.ghosts old records → StandsFor r memory.ghosts new records
