use Rattle.pv_ports.proofs.verdict.look.Goals as goal

-- the look that was let in found the pass and the seat as they were
pub returns-in-Ok : goal.returns-in-Ok
returns-in-Ok g c = let same = c.loop.invariant in rw (← same.2, ← same.3) c.in-Ok.ensures.turn
