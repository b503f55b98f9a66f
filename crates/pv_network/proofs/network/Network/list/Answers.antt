use Rattle.std.proofs.Common.{length, ap, ◌∙◌}
use Rattle.pv_udc.specs.EditList.{EditList}
use Rattle.pv_network.specs.declared.outcome.Outcome.TheVariants.{Records}
use Rattle.pv_network.proofs.network.Network.list.Goals as goal

pub returns : goal.returns
returns c = λ w stands. let here = rw (← c.self.view_is) at stands in
    (stands, ap Records (c.count-count.ensures.count ∙ ap (λ (u : EditList). length u.records) here.update))
