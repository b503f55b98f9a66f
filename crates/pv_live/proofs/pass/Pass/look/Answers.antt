use Rattle.pv_history.proofs.CallerLemmas.{prefix_self}
use Rattle.pv_live.proofs.pass.Pass.look.Goals as goal

-- it has seen nothing new
pub returns-in-None-clause-seen : goal.returns-in-None-clause-seen
returns-in-None-clause-seen g c = rw (← c.self.view_is) (prefix_self c.self.inside.known)
