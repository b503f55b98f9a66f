use Rattle.pv_ports.proofs.Carrying.{has_carried}
use Rattle.pv_ports.proofs.Ending.{ends_for}
use Rattle.pv_ports.proofs.Holding.{none_failed}
use Rattle.pv_ports.proofs.Righting.{stays_right}
use Rattle.pv_ports.proofs.Seeing.{sees_told}
use Rattle.pv_ports.proofs.carrier.Carrier.carry_round.Goals as goal

pub returns-clause-cause : goal.returns-clause-cause
returns-clause-cause g c =
    ends_for g.L.Link g.U.Run.limits g.N.Run.limits g.U.Run.opening g.N.Run.opening g.row.C _ _ _ _ _ _ _ c.make_round.ensures

pub returns-clause-right : goal.returns-clause-right
returns-clause-right g c =
    stays_right g.L.Link g.U.Run.limits g.N.Run.limits g.U.Run.opening g.N.Run.opening g.row.C
    c.a_packet_is_read_as_it_is_spelled.ensures.read _ _ _ _ _ _ _ c.make_round.ensures

pub returns-clause-seen : goal.returns-clause-seen
returns-clause-seen g c =
    sees_told g.L.Link g.U.Run.limits g.N.Run.limits g.U.Run.opening g.N.Run.opening g.row.C _ _ _ _ _ _ _ c.make_round.ensures

pub returns-clause-carried : goal.returns-clause-carried
returns-clause-carried g c =
    has_carried g.L.Link g.U.Run.limits g.N.Run.limits g.U.Run.opening g.N.Run.opening g.row.C
    c.a_packet_is_read_as_it_is_spelled.ensures.read _ _ _ _ _ _ _ c.make_round.ensures

pub returns-clause-unfailed : goal.returns-clause-unfailed
returns-clause-unfailed g c =
    none_failed g.L.Link g.U.Run.limits g.N.Run.limits g.U.Run.opening g.N.Run.opening g.row.C _ _ _ _ _ _ _ c.make_round.ensures
