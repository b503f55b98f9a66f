use Rattle.pv_ports.proofs.round.see.Goals as goal

-- the look that was let in found the pass and the viewer as they were
pub returns-in-Ok-clause-viewed : goal.returns-in-Ok-clause-viewed
returns-in-Ok-clause-viewed g c = rw (← c.loop.invariant.3) c.in-Ok.ensures.viewed

pub returns-in-Ok-clause-looks : goal.returns-in-Ok-clause-looks
returns-in-Ok-clause-looks g c = rw (← c.loop.invariant.2) (record { prefix = c.in-Ok.ensures.seen; same = c.in-Ok.ensures.looks })
