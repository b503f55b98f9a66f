use Rattle.std.proofs.Common.{None}
use Rattle.pv_network.proofs.Lists.{free_more}
use Rattle.pv_network.proofs.calls.free_all.Goals as goal

-- one port more is free
pub loop-port-preserved : goal.loop-port-preserved
loop-port-preserved c =
    let below = rw c.deref_mut-port-items.ensures.value at c.loop-port-test.true in
    rw c.loop-port.invariant (free_more None c.args.ports.now.items c.loop-port.port-index below)
