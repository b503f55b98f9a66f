use Rattle.pv_nodes.proofs.Opened.{if_ok}
use Rattle.pv_nodes.proofs.Spelled.{spelled, centre_on_disk}
use Rattle.pv_nodes.proofs.Stopped.{same_centre}
use Rattle.pv_nodes.proofs.centre.cut_node.Goals as goal

pub returns-clause-state : goal.returns-clause-state
returns-clause-state g c =
    let was = c.cut.ensures.was in
    if_ok c.cut.result (λ cut is. same_centre _ _ _ _ _ was.stands.1.state is.limits (is.stands was.stands.0 was.stands.1).state) c.cut.ensures.ok

pub returns-clause-may : goal.returns-clause-may
returns-clause-may g c = if_ok c.cut.result (λ cut is. is.may) c.cut.ensures.ok

pub returns-clause-on_disk : goal.returns-clause-on_disk
returns-clause-on_disk g c = let s = spelled _ _ c.cut.ensures.is in centre_on_disk _ c.cut.new.self s.records s.stands s.each s.images
