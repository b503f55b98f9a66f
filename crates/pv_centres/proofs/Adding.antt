-- What ports have met is added, one after another.
use Rattle.std.proofs.Common.{◌≡◌, Bool, true, false, List, [], ◌∷◌, ◌++◌, Option, Some, None, inl, inr, refl, ap, sym, ◌∙◌, append_assoc}
use Rattle.std.specs.Prelude.{◌⊎◌, ◌||◌}
use Rattle.std.proofs.lemmas.List.Elements.{All-nil, All-push}
use Rattle.pv_service.specs.declared.carrier_report.CarrierFault.{CarrierFault}
use Rattle.pv_service.specs.declared.carrier_report.CarrierFault.TheVariants as carriers
use Rattle.pv_service.specs.declared.carrier_report.CarrierReport.{CarrierReport}
use Rattle.pv_service.specs.declared.port_report.PortFault.{PortFault}
use Rattle.pv_service.specs.declared.port_report.PortFault.TheVariants as faults
use Rattle.pv_service.specs.declared.port_report.PortReport.{PortReport}
use Rattle.pv_centres.specs.Carried.{IsQuiet, AreQuiet, NoDiskFault}
use Rattle.pv_centres.specs.Ends.{is_door_end, disk_end, carrier_end, first_failure, SomeDoorEnd, HaveBeenAdded}
use Rattle.pv_centres.specs.declared.ends.Ends.{Ends}

-- neither of two is so, if not one of them is
pub neither : (a b : Bool) → (a || b) ≡ false → (a ≡ false) × (b ≡ false)
neither false false none = (refl, refl)
neither false true none = absurd cc
neither true b none = absurd cc

-- one of two is so
either : (a b : Bool) → (a || b) ≡ true → (a ≡ true) ⊎ (b ≡ true)
either true b one = inl refl
either false b one = inr one

-- none of two is there, if not the first of them is
pub none_there : {F : Type 0} (a b : Option F) → first_failure a b ≡ None → (a ≡ None) × (b ≡ None)
none_there None b none = (refl, none)
none_there (Some failure) b none = absurd cc

module _ {D F : Type 0} where
  -- a fault is a door's, or a disk's, or none
  no_fault : (fault : Option (PortFault D F)) → is_door_end fault ≡ false → disk_end fault ≡ None → fault ≡ None
  no_fault None door disk = refl
  no_fault (Some faults.Door) door disk = absurd cc
  no_fault (Some (faults.Disk failure)) door disk = absurd cc

  door_fault : (fault : Option (PortFault D F)) → is_door_end fault ≡ true → fault ≡ Some faults.Door
  door_fault None door = absurd cc
  door_fault (Some faults.Door) door = refl
  door_fault (Some (faults.Disk failure)) door = absurd cc

  -- a carrier's fault is no disk's
  no_disk_fault : (fault : Option (CarrierFault D F)) → carrier_end fault ≡ None → NoDiskFault fault
  no_disk_fault None none = tt
  no_disk_fault (Some carriers.Link) none = tt
  no_disk_fault (Some (carriers.Disk failure)) none = absurd cc

  -- one carrier more has met nothing
  pub quiet_more : (reports : List (CarrierReport D F)) (report : CarrierReport D F) (mid new : Ends D F)
      → (mid.memory ≡ false → mid.disk ≡ None → AreQuiet reports) → new.memory ≡ (mid.memory || report.memory)
      → new.disk ≡ first_failure mid.disk (carrier_end report.fault) → new.memory ≡ false → new.disk ≡ None
      → AreQuiet (reports ++ report ∷ [])
  quiet_more reports report mid new earlier memory_is disk_is memory none =
      let enough = neither mid.memory report.memory (sym memory_is ∙ memory) in
      let disks = none_there mid.disk (carrier_end report.fault) (sym disk_is ∙ none) in
      All-push IsQuiet reports report (earlier enough.0 disks.0)
      (record { memory = enough.1; disk = no_disk_fault report.fault disks.1 })

  -- nothing was added yet
  pub added_none : (now : Ends D F) → HaveBeenAdded [] now now
  added_none now = record {
    quiet = λ door disk. (door, disk, All-nil _);
    met = λ door. inl door;
  }

  -- a door's end stays one with one more after it
  end_stays : (reports : List (PortReport D F)) (report : PortReport D F) → SomeDoorEnd reports → SomeDoorEnd (reports ++ report ∷ [])
  end_stays reports report some = record {
    before = some.before;
    report = some.report;
    after = some.after ++ report ∷ [];
    reports_are = ap (λ (xs : List (PortReport D F)). xs ++ report ∷ []) some.reports_are
        ∙ append_assoc some.before (some.report ∷ some.after) (report ∷ []);
    is_door_end = some.is_door_end;
  }

  -- one more was
  pub added_more : (reports : List (PortReport D F)) (report : PortReport D F) (old mid new : Ends D F) → HaveBeenAdded reports old mid
      → new.door ≡ (mid.door || is_door_end report.fault) → new.disk ≡ first_failure mid.disk (disk_end report.fault)
      → HaveBeenAdded (reports ++ report ∷ []) old new
  added_more reports report old mid new earlier door_is disk_is = record {
    quiet = λ door disk.
        let doors = neither mid.door (is_door_end report.fault) (sym door_is ∙ door) in
        let disks = none_there mid.disk (disk_end report.fault) (sym disk_is ∙ disk) in
        let before = earlier.quiet doors.0 disks.0 in (
          before.0,
          before.1,
          All-push (λ (r : PortReport D F). r.fault ≡ None) reports report before.2
              (no_fault report.fault doors.1 disks.1),
        );
    met = λ door. met_more (either mid.door (is_door_end report.fault) (sym door_is ∙ door));
  }
    where
      met_more : (mid.door ≡ true) ⊎ (is_door_end report.fault ≡ true) → (old.door ≡ true) ⊎ SomeDoorEnd (reports ++ report ∷ [])
      met_more (inl was) = kept (earlier.met was)
        where
          kept : (old.door ≡ true) ⊎ SomeDoorEnd reports → (old.door ≡ true) ⊎ SomeDoorEnd (reports ++ report ∷ [])
          kept (inl old_door) = inl old_door
          kept (inr some) = inr (end_stays reports report some)
      met_more (inr is) = inr (record {
        before = reports;
        report = report;
        after = [];
        reports_are = refl;
        is_door_end = door_fault report.fault is;
      })
