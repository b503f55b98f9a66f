use Rattle.std.proofs.Common.{arith}
use Rattle.pv_network.proofs.network.Network.item_request.Goals as goal

-- it is a centre that there can be
pub item_in-requires : goal.item_in-requires
item_in-requires c = omega (arith, rw (← c.self.view_is) at c.requires, c.self.invariant.0, c.within.ensures)
