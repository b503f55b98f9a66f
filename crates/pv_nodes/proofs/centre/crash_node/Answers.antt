use Rattle.pv_nodes.proofs.Spelled.{spelled, centre_on_disk}
use Rattle.pv_nodes.proofs.centre.crash_node.Goals as goal

pub returns-clause-on_disk : goal.returns-clause-on_disk
returns-clause-on_disk g c = let s = spelled _ _ c.crash.ensures.is in centre_on_disk _ c.crash.new.self s.records s.stands s.each s.images
