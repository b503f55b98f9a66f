use Rattle.std.proofs.Common.{◌≡◌, ℕ, List, Result, Ok, Err, ap, ◌∙◌}
use Rattle.std.specs.Prelude.{IfOk}
use Rattle.pv_post.specs.declared.item.Item.{Item}
use Rattle.pv_network.specs.Bills.{bill_answer, stored_lines, step_of_lines}
use Rattle.pv_network.specs.Standing.{State, StandsFor, Performs}
use Rattle.pv_network.specs.World.{World, centre_at}
use Rattle.pv_network.specs.declared.outcome.Outcome.{Outcome}
use Rattle.pv_network.proofs.Performing.{items_there}
use Rattle.pv_network.proofs.network.Network.lines.Goals as goal

-- the lines of the centre's items are those of the world's
performed : {E : Type 0} (r : Result Outcome E) (s : State) (c : ℕ) (items : List Item)
    → IfOk r (λ outcome. outcome ≡ bill_answer (stored_lines c items))
    → ((w : World) → StandsFor s w → items ≡ (centre_at w c).calls.items)
    → IfOk r (λ outcome. Performs s s outcome (λ w. step_of_lines w c))
performed (Ok outcome) s c items is same = λ w stands. (stands, is ∙ ap (λ (l : List Item). bill_answer (stored_lines c l)) (same w stands))
performed (Err e) s c items is same = tt

pub returns : goal.returns
returns c =
    performed c.lines.result c.args.self.now c.args.centre c.index.result.now.node.state.items c.lines.ensures
    (λ w stands. items_there _ w (rw (← c.self.view_is) at stands) c.args.centre c.index.result.now
    (rw (← c.self.view_is) at c.requires) c.index.ensures)
