use Rattle.std.proofs.Common.{arith}
use Rattle.pv_udc.proofs.state.UdcState.charges.Goals as goal

pub returns-clause-within : goal.returns-clause-within
returns-clause-within c = rw (← c.self.view_is) (omega (arith, c.self.invariant.counted, c.self.invariant.within))
