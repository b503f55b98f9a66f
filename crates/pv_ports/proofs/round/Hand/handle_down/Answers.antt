use Rattle.pv_ports.proofs.round.Hand.handle_down.Goals as goal

pub returns-in-Down-clause-handles : goal.returns-in-Down-clause-handles
returns-in-Down-clause-handles g c = λ link. rw c.in-Down.is (c.apply.ensures.handles link)
