-- What the threads of a server met.
use Rattle.std.specs.Prelude.{◌≡◌, ◌⊎◌, Bool, true, false, List, ◌∷◌, ◌++◌, Option, None, Some, All}
use Rattle.pv_closing.specs.declared.rest_end.RestEnd.{RestEnd}
use Rattle.pv_closing.specs.declared.rest_end.RestEnd.TheVariants as rests
use Rattle.pv_service.specs.declared.carrier_report.CarrierFault.{CarrierFault}
use Rattle.pv_service.specs.declared.carrier_report.CarrierFault.TheVariants as carriers
use Rattle.pv_service.specs.declared.port_report.PortFault.{PortFault}
use Rattle.pv_service.specs.declared.port_report.PortFault.TheVariants as ports
use Rattle.pv_service.specs.declared.port_report.PortReport.{PortReport}
use Rattle.pv_centres.specs.declared.ends.Ends.{Ends}

-- the first of two failures, of which either may not have happened
abbrev pub first_failure : {F : Type 0} → Option F → Option F → Option F
first_failure (Some earlier) later = Some earlier
first_failure None later = later

-- a port ended since its door failed
abbrev pub is_door_end : {D F : Type 0} → Option (PortFault D F) → Bool
is_door_end (Some ports.Door) = true
is_door_end _ = false

-- the failure of a disk that ended a port, if one did
abbrev pub disk_end : {D F : Type 0} → Option (PortFault D F) → Option F
disk_end (Some (ports.Disk failure)) = Some failure
disk_end _ = None

-- the failure of a disk that ended a carrier, if one did
abbrev pub carrier_end : {D F : Type 0} → Option (CarrierFault D F) → Option F
carrier_end (Some (carriers.Disk failure)) = Some failure
carrier_end _ = None

-- the failure of a disk that ended the bringing of a node, if one did
abbrev pub rest_end : {D F : Type 0} → RestEnd D F → Option F
rest_end (rests.DiskFault failure) = Some failure
rest_end _ = None

-- a node was not brought all that it lacked, for want of room
abbrev pub is_room_end : {D F : Type 0} → RestEnd D F → Bool
is_room_end (rests.Full count) = true
is_room_end rests.NoRoom = true
is_room_end _ = false

-- one of these ports ended since its door failed
pub record SomeDoorEnd {D F : Type 0} (reports : List (PortReport D F)) : Type 0 where
  pub before : List (PortReport D F)
  pub report : PortReport D F
  pub after : List (PortReport D F)
  pub reports_are : reports ≡ before ++ report ∷ after
  pub is_door_end : report.fault ≡ Some ports.Door

-- What these ports have met was added: if there is no fault then, there was none before, and they have met none; and if a door has
-- failed then, it had before, or one of theirs has.
pub record HaveBeenAdded {D F : Type 0} (reports : List (PortReport D F)) (old new : Ends D F) : Type 0 where
  pub quiet : new.door ≡ false → new.disk ≡ None
      → (old.door ≡ false) × (old.disk ≡ None) × All (λ report. report.fault ≡ None) reports
  pub met : new.door ≡ true → (old.door ≡ true) ⊎ SomeDoorEnd reports
