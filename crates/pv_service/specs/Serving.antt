-- Lines that come in at a door and are served one after another.
use Rattle.std.specs.Prelude.{◌≡◌, ℕ, ◌<◌, ◌≤◌, Bool, List, [], ◌∷◌, ◌++◌, length, Option, None, Some}
use Rattle.pv_outside.specs.Counts.{Rose}
use Rattle.pv_service.specs.Chain.{IsChain, any_is}
use Rattle.pv_service.specs.Doors.{DoorReport, GivesBack}
use Rattle.pv_service.specs.declared.port_report.PortFault.{PortFault}
use Rattle.pv_service.specs.declared.port_report.PortFault.TheVariants as faults
use Rattle.pv_service.specs.declared.port_report.PortReport.{PortReport}

-- a connection that was served, as it was given back, and how its call or session ended
pub record Served (L E : Type 0) : Type 0 where
  pub line : L
  pub end : E

-- the connections in order, of those that were served, the last one first
abbrev pub lines_in : {L E : Type 0} → List (Served L E) → List L
lines_in [] = []
lines_in (last ∷ earlier) = lines_in earlier ++ last.line ∷ []

-- no disk failed in any of them
abbrev pub NoFailureIn : {L E F : Type 0} → (E → Option F) → List (Served L E) → Type 0
NoFailureIn failure_in [] = Unit {0}
NoFailureIn failure_in (last ∷ earlier) = NoFailureIn failure_in earlier × (failure_in last.end ≡ None)

-- the disk failed so in the last of them, and in none before it
abbrev pub FailureInLast : {L E F : Type 0} → (E → Option F) → F → List (Served L E) → Type 0
FailureInLast failure_in failure [] = ⊥
FailureInLast failure_in failure (last ∷ earlier) = NoFailureIn failure_in earlier × (failure_in last.end ≡ Some failure)

-- Why a port has served these connections and no more, of as many as it was to serve: these are all; or its door has failed, and its
-- count of failed accepts rose; or a call of the disk has failed in the last of them.
abbrev pub IsPortEnd : {L E D F : Type 0} → (E → Option F) → Option (PortFault D F) → ℕ → List (Served L E) → DoorReport L → DoorReport L → Type 0
IsPortEnd failure_in None calls served old new = (length served ≡ calls) × NoFailureIn failure_in served
IsPortEnd failure_in (Some faults.Door) calls served old new =
    (length served < calls) × NoFailureIn failure_in served × Rose old.faults new.faults
IsPortEnd failure_in (Some (faults.Disk failure)) calls served old new = (length served ≤ calls) × FailureInLast failure_in failure served

module _ {P L E : Type 0} (Serves : P → Served L E → P → Type 0) where
  -- the next connection came in, was served so and given back, and its call or session ended so
  pub record ServesNext (old : P) (old_door : DoorReport L) (new : P) (new_door : DoorReport L) (end : E) : Type 0 where
    pub line : L
    pub serves : Serves old (record { line = line; end = end }) new
    pub door : GivesBack (line ∷ []) old_door new_door

-- Each connection is served so. By how it ended: the failure of the disk that ended it, if one did, and whether no memory was found.
module _ {P L E F : Type 0} (Serves : P → Served L E → P → Type 0) (failure_in : E → Option F) (lacked_memory : E → Bool) where
  -- this many connections were served, and the disk has failed in none of them
  pub record HasServedSome (count : ℕ) (old : P) (old_door : DoorReport L) (new : P) (new_door : DoorReport L) (memory : Bool) : Type 0 where
    pub served : List (Served L E)
    pub serves : IsChain Serves served old new
    pub door : GivesBack (lines_in served) old_door new_door
    pub memory_is : memory ≡ any_is (λ s. lacked_memory s.end) served
    pub goes_on : NoFailureIn failure_in served
    pub counted : length served ≡ count

  -- Lines were served until there were this many, or there was a fault: which they are, how each was served, that each was given back,
  -- in order, and why there are no more.
  pub record HasServed {D : Type 0} (calls : ℕ) (old : P) (old_door : DoorReport L) (new : P) (new_door : DoorReport L) (report : PortReport D F)
      : Type 0 where
    pub served : List (Served L E)
    pub serves : IsChain Serves served old new
    pub door : GivesBack (lines_in served) old_door new_door
    pub memory_is : report.memory ≡ any_is (λ s. lacked_memory s.end) served
    pub ends : IsPortEnd failure_in report.fault calls served old_door new_door
