use Rattle.pv_ports.proofs.Sending.{sends_all}
use Rattle.pv_ports.proofs.call.send.Goals as goal

pub returns-in_ok-queue-in-Ended-clause-sent : goal.returns-in_ok-queue-in-Ended-clause-sent
returns-in_ok-queue-in-Ended-clause-sent g c =
    rw c.in-Ended.is (sends_all _ _ _ _ _ _ _ c.in_ok-queue-in-Ended.ensures.sent c.flush.ensures.written c.flush.ensures.emptied)
