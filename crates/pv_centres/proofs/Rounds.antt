-- Unless a disk's call has failed in a carrier's rounds, no ask of its passes has.
use Rattle.std.proofs.Common.{◌≡◌, ℕ, false, List, [], ◌∷◌, Option, Some, None, is_some, refl, sym, ◌∙◌, subst}
use Rattle.std.specs.Prelude.{◌||◌}
use denote.Param.{number}
use Rattle.pv_outside.specs.declared.limits.Limits.{Limits}
use Rattle.pv_outside.specs.declared.link.Link as links
use Rattle.pv_edits.specs.declared.record.Record.{Record}
use Rattle.pv_irc.specs.contracts.rules.IrcRulesRules.TheImpl as irc
use Rattle.pv_irc.specs.declared.record.CentreRecord.{CentreRecord}
use Rattle.pv_udc.specs.contracts.rules.UdcRulesRules.TheImpl as udc
use Rattle.pv_ports.specs.Outcomes.{DisksHeld, NoAskFailed}
use Rattle.pv_ports.specs.Round.{CarrierState, Stop}
use Rattle.pv_ports.specs.declared.round_end.RoundEnd.TheVariants as stops
use Rattle.pv_ports.proofs.Holding.{none_failed}
use Rattle.pv_service.specs.Rounds.{CarrierPlace, RoundGoesOn, AllGoOn, LastRoundIs, MakesRound, MakesRounds, HasCarried}
use Rattle.pv_service.specs.declared.carrier_report.CarrierFault.{CarrierFault}
use Rattle.pv_service.specs.declared.carrier_report.CarrierFault.TheVariants as faults
use Rattle.pv_service.specs.declared.carrier_report.CarrierReport.{CarrierReport}
use Rattle.pv_centres.specs.Carried.{HasStoredNoMore, IsQuiet, NoDiskFault}
use Rattle.pv_centres.proofs.Adding.{neither}
use Rattle.pv_centres.proofs.Storing.{stored_more}

-- no disk's call has failed in a round that goes on
held_on : (stop : Stop) → RoundGoesOn stop → DisksHeld stop
held_on (stops.Moved records items) on = tt
held_on stops.Idle on = tt
held_on stops.LinkFault on = absurd on
held_on (stops.DiskFault failure) on = absurd on
held_on (stops.Full node count) on = tt
held_on (stops.Memory stored) on = tt

-- nor in the last one, if that is not why there is no further one
held_at_last : {D F : Type 0} (fault : Option (CarrierFault D F)) (stop : Stop) → LastRoundIs fault stop → NoDiskFault fault
    → DisksHeld stop
held_at_last None (stops.Moved records items) is none = tt
held_at_last None stops.Idle is none = tt
held_at_last None stops.LinkFault is none = tt
held_at_last None (stops.DiskFault failure) is none = absurd is
held_at_last None (stops.Full node count) is none = tt
held_at_last None (stops.Memory stored) is none = tt
held_at_last (Some faults.Link) stop is none = subst DisksHeld (sym is) tt
held_at_last (Some (faults.Disk failure)) stop is none = absurd none

-- a carrier that has met no fault has met none of a disk
no_disk_yet : {D F : Type 0} (fault : Option (CarrierFault D F)) → is_some fault ≡ false → NoDiskFault fault
no_disk_yet None is = tt
no_disk_yet (Some fault) is = absurd cc

-- no ask failed in some rounds, nor in some more
later : (a b c : CarrierState) → NoAskFailed a b → NoAskFailed b c → NoAskFailed a c
later a b c one other = record { centre = other.centre ∙ one.centre; udc = other.udc ∙ one.udc }

module _ {L : Type 0} (k : links.Ghosts L) (udc_limits centre_limits : Limits) (udc_opening : List Record)
    (centre_opening : List CentreRecord) (C : ℕ) where
  in_round : (old new : CarrierPlace L) (stop : Stop)
      → MakesRound udc.ghosts (irc.ghosts (number C)) k udc_limits centre_limits udc_opening centre_opening C old stop new
      → DisksHeld stop → NoAskFailed old.carrier new.carrier
  in_round old new stop made held =
      none_failed k udc_limits centre_limits udc_opening centre_opening C old.carrier new.carrier old.down old.up new.down new.up stop
      made.round held

  in_rounds : (all : List Stop) (old new : CarrierPlace L)
      → MakesRounds udc.ghosts (irc.ghosts (number C)) k udc_limits centre_limits udc_opening centre_opening C all old new
      → AllGoOn all → NoAskFailed old.carrier new.carrier
  in_rounds [] old new same on =
      subst (λ (at : CarrierPlace L). NoAskFailed old.carrier at.carrier) (sym same) (record { centre = refl; udc = refl })
  in_rounds (last ∷ earlier) old new (before, rounds, round) on =
      later old.carrier before.carrier new.carrier (in_rounds earlier old before rounds on.0)
      (in_round before new last round (held_on last on.1))

  pub unfailed : {D F : Type 0} (old new : CarrierPlace L) (report : CarrierReport D F)
      → HasCarried udc.ghosts (irc.ghosts (number C)) k udc_limits centre_limits udc_opening centre_opening C old new report
      → NoDiskFault report.fault → NoAskFailed old.carrier new.carrier
  unfailed old new report has none =
      let before = has.rounds.0 in
      later old.carrier before.carrier new.carrier (in_rounds has.earlier old before has.rounds.1 has.goes_on)
      (in_round before new has.last has.rounds.2 (held_at_last report.fault has.last has.ends none))

  -- a carrier that has met no fault, and which notes that memory ran out, has stored what it has brought
  pub stored_still : {D F : Type 0} (old new : CarrierPlace L) (before after : CarrierReport D F)
      → (IsQuiet before → HasStoredNoMore udc_opening centre_opening C old.carrier) → is_some before.fault ≡ false
      → HasCarried udc.ghosts (irc.ghosts (number C)) k udc_limits centre_limits udc_opening centre_opening C old new after
      → (after.memory || before.memory) ≡ false → NoDiskFault after.fault → HasStoredNoMore udc_opening centre_opening C new.carrier
  stored_still old new before after stored no_fault has memory none =
      let enough = neither after.memory before.memory memory in
      stored_more udc_opening centre_opening C old.carrier new.carrier
      (stored (record { memory = enough.1; disk = no_disk_yet before.fault no_fault })) (has.seen enough.0) (unfailed old new after has none)
