use Rattle.std.proofs.Common.{◌≡◌, false, is_some, sym, subst}
use Rattle.std.specs.Prelude.{◌||◌}
use Rattle.pv_service.specs.Rounds.{carrier_at}
use Rattle.pv_service.specs.declared.carrier_report.CarrierReport.{CarrierReport}
use Rattle.pv_centres.specs.Carried.{NoDiskFault}
use Rattle.pv_centres.proofs.Rounds.{stored_still}
use Rattle.pv_centres.proofs.centre_carrier.CentreCarrier.carry.Goals as goal

-- the rounds have stored no more than they have brought
pub invariant_of-self : goal.invariant_of-self
invariant_of-self g c = λ quiet.
    let old = c.self.inside.stand in
    let new = c.carry_rounds.new.stand in
    let now : c.deref_mut.result.now ≡ new.report.value = c.deref_mut.ensures.value in
    let was : c.deref-2.result.now ≡ old.report.value = c.deref-2.ensures in
    stored_still _ _ _ _ _ g.row.C (carrier_at old.carrier old.down.value old.up.value)
    (carrier_at new.carrier new.down.value new.up.value) old.report.value new.report.value c.self.invariant
    (subst (λ (r : CarrierReport g.row.D.Denot g.row.D-Failure.Denot). is_some r.fault ≡ false) c.deref.ensures
    (sym c.if-is_some.ensures))
    c.carry_rounds.ensures
    (subst (λ (r : CarrierReport g.row.D.Denot g.row.D-Failure.Denot). (new.report.value.memory || r.memory) ≡ false) was
    (subst (λ (r : CarrierReport g.row.D.Denot g.row.D-Failure.Denot). (r.memory || c.deref-2.result.now.memory) ≡ false) now quiet.memory))
    (subst (λ (r : CarrierReport g.row.D.Denot g.row.D-Failure.Denot). NoDiskFault r.fault) now quiet.disk)
