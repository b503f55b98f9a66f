use Rattle.pv_ports.proofs.Sending.{fails_before}
use Rattle.pv_ports.proofs.outbox.Outbox.queue.Goals as goal

pub returns-in_err-make_room-clause-sent : goal.returns-in_err-make_room-clause-sent
returns-in_err-make_room-clause-sent g c =
    fails_before _ _ _ _ _ _ c.from_residual.ensures.0 c.in_err-make_room.ensures.sent
