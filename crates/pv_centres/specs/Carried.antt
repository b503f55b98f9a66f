-- What a carrier of a server has brought, and how few of a node's records come from elsewhere.
use Rattle.std.specs.Prelude.{◌≡◌, ℕ, ◌+◌, ◌≤◌, false, List, Option, Some, All}
use Rattle.pv_edits.specs.Edits.{taken_of}
use Rattle.pv_edits.specs.declared.record.Record.{Record}
use Rattle.pv_irc.specs.History.{applied_of}
use Rattle.pv_irc.specs.declared.record.CentreRecord.{CentreRecord}
use Rattle.pv_live.specs.Entries.{with_opening}
use Rattle.pv_ports.specs.Round.{CarrierState}
use Rattle.pv_service.specs.declared.carrier_report.CarrierFault.{CarrierFault}
use Rattle.pv_service.specs.declared.carrier_report.CarrierFault.TheVariants as faults
use Rattle.pv_service.specs.declared.carrier_report.CarrierReport.{CarrierReport}

-- a carrier has met no failure of a disk
abbrev pub NoDiskFault : {D F : Type 0} → Option (CarrierFault D F) → Type 0
NoDiskFault (Some (faults.Disk failure)) = ⊥
NoDiskFault _ = Unit {0}

-- memory ran out in no round of a carrier, and no disk failed
pub record IsQuiet {D F : Type 0} (report : CarrierReport D F) : Type 0 where
  pub memory : report.memory ≡ false
  pub disk : NoDiskFault report.fault

-- so it is of each of these
abbrev pub AreQuiet : {D F : Type 0} → List (CarrierReport D F) → Type 0
AreQuiet reports = All IsQuiet reports

-- What was stored for a carrier is what it has brought: the centre of this number has applied as many records since its opening, or more,
-- and the Update Centre has taken up as many of the centre's items. None of its asks failed.
pub record HasStoredNoMore (udc_opening : List Record) (centre_opening : List CentreRecord) (C : ℕ) (carrier : CarrierState) : Type 0 where
  pub applied : applied_of centre_opening + carrier.centre.told ≤ applied_of (with_opening centre_opening carrier.centre.seen)
  pub taken_up : taken_of udc_opening C + carrier.udc.told ≤ taken_of (with_opening udc_opening carrier.udc.seen) C
  pub centre_unfailed : carrier.centre.failed ≡ 0
  pub udc_unfailed : carrier.udc.failed ≡ 0

-- how many items of all centres were taken up
abbrev pub taken_count : List Record → ℕ
taken_count records = taken_of records 0 + (taken_of records 1 + (taken_of records 2 + taken_of records 3))
