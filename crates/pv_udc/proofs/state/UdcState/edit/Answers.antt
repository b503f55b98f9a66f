use Rattle.pv_udc.proofs.state.UdcState.edit.Goals as goal

pub returns-in-Lease : goal.returns-in-Lease
returns-in-Lease c = rw c.in-Lease.is c.lease.ensures
