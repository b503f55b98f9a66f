use Rattle.std.proofs.Common.{◌≡◌}
use Rattle.pv_ports.proofs.round.see.Given as goal

-- a look that was not let in has changed nothing
abbrev pub invariant-loop : goal.invariant-loop
invariant-loop g l =
    (goal.iterator-loop g).can_next l.iterator' × (goal.iterator-loop g).is_finite l.iterator'
    × (l.pass ≡ l.fn.pass) × (l.view ≡ l.fn.view)
