use Rattle.pv_nodes.proofs.Spelled.{spelled, update_on_disk}
use Rattle.pv_nodes.proofs.update.UpdateNode.crash.Goals as goal

pub returns-clause-on_disk : goal.returns-clause-on_disk
returns-clause-on_disk c = let s = spelled _ _ c.crash.ensures.is in update_on_disk c.crash.new.self s.records s.stands s.each s.images
