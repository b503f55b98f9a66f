use Rattle.std.proofs.Common.{length, ap, ◌∙◌}
use Rattle.pv_udc.specs.EditList.{EditList}
use Rattle.pv_network.proofs.Performing.{count_there}
use Rattle.pv_network.proofs.network.Network.receiver_count.Goals as goal

-- the centre's
pub returns-in-Down : goal.returns-in-Down
returns-in-Down c = λ w stands.
    let count = count_there _ w (rw (← c.self.view_is) at stands) c.args.centre c.index.result.now
    (rw (← c.self.view_is) at c.requires) c.index.ensures in
    rw c.in-Down.is (c.count.ensures ∙ count)

-- the Update Centre's
pub returns-in-Up : goal.returns-in-Up
returns-in-Up c = λ w stands.
    let here = rw (← c.self.view_is) at stands in
    rw c.in-Up.is (c.count-in-Up.ensures.count ∙ ap (λ (u : EditList). length u.records) here.update)
