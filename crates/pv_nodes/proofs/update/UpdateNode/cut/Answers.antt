use Rattle.pv_nodes.proofs.Opened.{if_ok}
use Rattle.pv_nodes.proofs.Spelled.{spelled, update_on_disk}
use Rattle.pv_nodes.proofs.Stopped.{same_list}
use Rattle.pv_nodes.proofs.update.UpdateNode.cut.Goals as goal

pub returns-clause-state : goal.returns-clause-state
returns-clause-state c =
    let was = c.cut.ensures.was in
    rw (← c.self.view_is)
    (if_ok c.cut.result (λ cut is. same_list _ _ _ _ was.stands.1.state is.limits (is.stands was.stands.0 was.stands.1).state) c.cut.ensures.ok)

pub returns-clause-may : goal.returns-clause-may
returns-clause-may c = rw (← c.self.view_is) (if_ok c.cut.result (λ cut is. is.may) c.cut.ensures.ok)

pub returns-clause-on_disk : goal.returns-clause-on_disk
returns-clause-on_disk c = let s = spelled _ _ c.cut.ensures.is in update_on_disk c.cut.new.self s.records s.stands s.each s.images
