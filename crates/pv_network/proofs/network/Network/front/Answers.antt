use Rattle.std.proofs.Common.{List, length, ap, ◌∙◌}
use Rattle.pv_post.specs.declared.item.Item.{Item}
use Rattle.pv_udc.specs.EditList.{EditList}
use Rattle.pv_network.proofs.Performing.{items_there}
use Rattle.pv_network.proofs.network.Network.front.Goals as goal

-- records of the list
pub returns-in-Down : goal.returns-in-Down
returns-in-Down c = λ w stands.
    let here = rw (← c.self.view_is) at stands in
    rw c.in-Down.is (c.count.ensures.count ∙ ap (λ (u : EditList). length u.records) here.update)

-- items of the centre
pub returns-in-Up : goal.returns-in-Up
returns-in-Up c = λ w stands.
    let items = items_there _ w (rw (← c.self.view_is) at stands) c.args.centre c.index.result.now
    (rw (← c.self.view_is) at c.requires) c.index.ensures in
    rw c.in-Up.is (c.items.ensures ∙ ap (λ (l : List Item). length l) items)
