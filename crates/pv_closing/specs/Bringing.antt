-- How a node is brought what it lacks: record by record, in order, as far as it goes.
use Rattle.std.specs.Prelude.{◌≡◌, ◌⊎◌, ℕ, List, ◌∷◌, ◌++◌, take, Option, Some, None}
use Rattle.pv_outside.specs.Counts.{Rose}
use Rattle.pv_outside.specs.declared.reports.Reports as reports
use Rattle.pv_journal.specs.Journal.{LeavesOnly}
use Rattle.pv_node.specs.Asking.{IsUnsettled, IsTaken, IsAtLimit, records_with}
use Rattle.pv_node.specs.Parts.{Parts}
use Rattle.pv_node.specs.Standing.{Stands, StandsEither, StandsFor}
use Rattle.pv_node.specs.declared.rules.Rules as rules
use Rattle.pv_closing.specs.declared.rest_end.RestEnd.{RestEnd}
use Rattle.pv_closing.specs.declared.rest_end.RestEnd.TheVariants.{Brought, Full, NoRoom, DiskFault}

-- a call of the disk failed
abbrev pub IsDiskFaultEnd : {D F : Type 0} → RestEnd D F → Type 0
IsDiskFaultEnd (DiskFault failure) = Unit {0}
IsDiskFaultEnd _ = ⊥

-- a record had no room
abbrev pub IsNoRoom : {D F : Type 0} → RestEnd D F → Type 0
IsNoRoom NoRoom = Unit {0}
IsNoRoom _ = ⊥

-- what a settling may find stored: the record that was in hand, or none
abbrev pub IsFoundInHand : {D State Rec : Type 0} → Parts D State Rec → Option Rec → Type 0
IsFoundInHand old found = (found ≡ None) ⊎ (found ≡ old.hand)

module _ {S State Request Rec Reply D : Type 0} (r : rules.Ghosts S State Request Rec Reply) where
  -- the state of a node after a settling, which found this record of its stored, or none
  abbrev pub settled_state : Parts D State Rec → Option Rec → State
  settled_state node None = node.state
  settled_state node (Some rec) = r.after node.state rec node.journal.count

module _ {S State Request Rec Reply D : Type 0} (r : rules.Ghosts S State Request Rec Reply) (g : reports.Ghosts D)
    (old new : Parts D State Rec) where
  -- ---- the record that comes next

  -- why it is not stored: there are as many records as the limit, or it has no room, and nothing has changed; or a call of the disk
  -- failed, and it is in hand
  abbrev pub IsAskStop : {F : Type 0} → Rec → RestEnd D F → Type 0
  IsAskStop rec Brought = ⊥
  IsAskStop rec (Full count) = IsAtLimit r old new count
  IsAskStop rec NoRoom = (new ≡ old) × (r.fits old.state rec → ⊥)
  IsAskStop rec (DiskFault failure) = IsTaken r g old new rec × Rose (g.faults old.journal.disk) (g.faults new.journal.disk)

  -- a crash at any moment leaves the records that there were, perhaps with it
  abbrev pub LeavesNext : Rec → Type 0
  LeavesNext rec = (records : List Rec) → StandsFor r g old records
      → LeavesOnly g old.journal.disk new.journal.disk (StandsEither r records (Some rec))

  -- ---- all that is lacked

  -- A settling found this record stored, or none, and then these were stored, in order.
  pub record HasAdded (found : Option Rec) (more : List Rec) : Type 0 where
    pub of_hand : IsFoundInHand old found
    pub stands : (records : List Rec) → StandsFor r g old records → StandsFor r g new (records_with records found ++ more)

  -- why a node has not stored the record that comes next: it is full; the record has no room; or a call of the disk failed, and it is
  -- in hand
  abbrev pub StopsAt : {F : Type 0} → Rec → RestEnd D F → Type 0
  StopsAt next Brought = ⊥
  StopsAt next (Full count) =
      (new.hand ≡ None) × (new.journal.count ≡ count) × (count ≡ (r.limits_of new.state).records)
  StopsAt next NoRoom = (new.hand ≡ None) × (r.fits new.state next → ⊥)
  StopsAt next (DiskFault failure) = (new.hand ≡ Some next) × Rose (g.faults old.journal.disk) (g.faults new.journal.disk)

  -- Of what was lacked some is stored, in order, and what comes next is not, for this reason.
  pub record IsBroughtSome {F : Type 0} (found : Option Rec) (lacked : List Rec) (end : RestEnd D F) : Type 0 where
    pub before : List Rec
    pub next : Rec
    pub after : List Rec
    pub lacked_is : lacked ≡ before ++ next ∷ after
    pub added : HasAdded found before
    pub why : StopsAt next end

  -- how far a node is brought what it lacked after the settling
  abbrev pub IsBroughtTo : {F : Type 0} → Option Rec → List Rec → RestEnd D F → Type 0
  IsBroughtTo found lacked Brought = HasAdded found lacked × (new.hand ≡ None)
  IsBroughtTo found lacked end = IsBroughtSome found lacked end

  -- a crash at any moment leaves the records that there were and a prefix of these
  abbrev pub LeavesFirst : List Rec → Type 0
  LeavesFirst lacked = (records : List Rec) → StandsFor r g old records
      → LeavesOnly g old.journal.disk new.journal.disk (λ image. (n : ℕ) × Stands r image (records ++ take n lacked))

  -- ---- with the settling

  -- What a node lacks is read from its state. A call of the disk failed in the settling; or the node was settled, and is brought
  -- what it lacked then.
  abbrev pub EndsBringing : {F : Type 0} → (State → List Rec) → RestEnd D F → Type 0
  EndsBringing lacked_at end =
      (IsUnsettled r g old new × IsDiskFaultEnd end × Rose (g.faults old.journal.disk) (g.faults new.journal.disk))
      ⊎ ((found : Option Rec) × IsBroughtTo found (lacked_at (settled_state r old found)) end)

  -- However it ends, the node stands for what it stood for, perhaps with the record that was in hand, and after that for a prefix of
  -- what was lacked then.
  abbrev pub StandsBrought : (State → List Rec) → Type 0
  StandsBrought lacked_at = (records : List Rec) → StandsFor r g old records
      → (found : Option Rec) × IsFoundInHand old found
      × (n : ℕ) × StandsFor r g new (records_with records found ++ take n (lacked_at (settled_state r old found)))

  -- A crash at any moment leaves the records that there were, perhaps with the one in hand, and after them a prefix of what is lacked
  -- then.
  abbrev pub LeavesBrought : (State → List Rec) → Type 0
  LeavesBrought lacked_at = (records : List Rec) → StandsFor r g old records
      → LeavesOnly g old.journal.disk new.journal.disk (λ image. (found : Option Rec) × IsFoundInHand old found
      × (n : ℕ) × Stands r image (records_with records found ++ take n (lacked_at (settled_state r old found))))
