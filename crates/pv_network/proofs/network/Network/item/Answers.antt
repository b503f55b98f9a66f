use Rattle.std.proofs.Common.{List, ap, ◌∙◌}
use Rattle.std.specs.Prelude.{slice_get}
use Rattle.pv_post.specs.declared.item.Item.{Item}
use Rattle.pv_network.proofs.Performing.{items_there}
use Rattle.pv_network.proofs.network.Network.item.Goals as goal

-- the centre's items are the world's
pub returns : goal.returns
returns c = λ w stands.
    let items = items_there _ w (rw (← c.self.view_is) at stands) c.args.centre c.index.result.now
    (rw (← c.self.view_is) at c.requires) c.index.ensures in
    c.item_at.ensures ∙ ap (λ (l : List Item). slice_get l c.args.number) items
