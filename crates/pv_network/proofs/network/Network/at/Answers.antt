use Rattle.std.proofs.Common.{ap, ◌∙◌}
use Rattle.pv_network.specs.declared.outcome.Outcome.TheVariants.{Applied}
use Rattle.pv_network.proofs.Performing.{applied_there}
use Rattle.pv_network.proofs.network.Network.at.Goals as goal

pub returns : goal.returns
returns c = λ w stands.
    let count = applied_there _ w (rw (← c.self.view_is) at stands) c.args.centre c.index.result.now
    (rw (← c.self.view_is) at c.requires) c.index.ensures in
    (stands, ap Applied (c.applied-count.ensures ∙ count))
