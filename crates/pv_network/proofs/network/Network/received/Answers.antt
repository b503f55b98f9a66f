use Rattle.std.proofs.Common.{ap, ◌∙◌}
use Rattle.pv_edits.specs.Edits.{taken_of}
use Rattle.pv_udc.specs.EditList.{EditList}
use Rattle.pv_network.proofs.Performing.{applied_there}
use Rattle.pv_network.proofs.network.Network.received.Goals as goal

-- records that the centre has applied
pub returns-in-Down : goal.returns-in-Down
returns-in-Down c = λ w stands.
    let applied = applied_there _ w (rw (← c.self.view_is) at stands) c.args.centre c.index.result.now
    (rw (← c.self.view_is) at c.requires) c.index.ensures in
    rw c.in-Down.is (c.applied.ensures ∙ applied)

-- items that were taken up
pub returns-in-Up : goal.returns-in-Up
returns-in-Up c = λ w stands.
    let here = rw (← c.self.view_is) at stands in
    rw c.in-Up.is (rw c.state.ensures at c.taken.ensures ∙ ap (λ (u : EditList). taken_of u.records c.args.centre) here.update)
