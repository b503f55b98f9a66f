use Rattle.std.proofs.Common.{sym, ◌∙◌, subst}
use Rattle.pv_ports.specs.Round.{CarrierState}
use Rattle.pv_centres.specs.Carried.{HasStoredNoMore}
use Rattle.pv_centres.proofs.Storing.{none_stored}
use Rattle.pv_centres.proofs.centre_carrier.CentreCarrier.new.Goals as goal

-- nothing was stored for new passes
pub invariant_of-result : goal.invariant_of-result
invariant_of-result g c = λ quiet.
    subst (λ (s : CarrierState). HasStoredNoMore g.U.Run.opening g.N.Run.opening g.row.C s)
    (sym (c.new-stand.ensures.carrier ∙ c.new-carrier.ensures))
    (none_stored g.U.Run.opening g.N.Run.opening g.row.C _ c.requires.new.0 c.requires.new.1)
