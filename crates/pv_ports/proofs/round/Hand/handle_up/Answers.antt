use Rattle.pv_ports.proofs.round.Hand.handle_up.Goals as goal

pub returns-in-Up-clause-handles : goal.returns-in-Up-clause-handles
returns-in-Up-clause-handles g c = λ link. rw c.in-Up.is (c.take_up.ensures.handles link)
