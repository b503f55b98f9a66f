use Rattle.pv_network.proofs.Noting.{noted}
use Rattle.pv_network.proofs.Standing.{out_stands}
use Rattle.pv_network.proofs.network.Network.try_step.Goals as goal

-- what the event did was performed
pub returns-clause-performs : goal.returns-clause-performs
returns-clause-performs c =
    noted c.try_happen-outcome.result _ _ c.is_err-self-inside.result c.args.event.now
    (rw (← c.self.view_is) at c.try_happen-outcome.ensures.performs)

-- it stands for the world that it stood for
pub invariant_of-self : goal.invariant_of-self
invariant_of-self c =
    let stands = c.self.invariant.1 in (c.self.invariant.0, (stands.0, out_stands _ stands.0 stands.1 c.is_err-self-inside.result))
