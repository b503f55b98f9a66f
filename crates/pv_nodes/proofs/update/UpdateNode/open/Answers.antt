use Rattle.pv_nodes.proofs.Spelled.{spelled, update_on_disk}
use Rattle.pv_nodes.proofs.update.UpdateNode.open.Goals as goal

pub returns-clause-on_disk : goal.returns-clause-on_disk
returns-clause-on_disk c = let s = spelled _ _ c.in_ok-open.ensures.is in update_on_disk c.in_ok-open.field-0 s.records s.stands s.each s.images
