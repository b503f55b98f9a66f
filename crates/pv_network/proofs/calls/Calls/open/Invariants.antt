use Rattle.std.proofs.Common.{◌≡◌, None}
use Rattle.std.specs.Prelude.{replicate}
use Rattle.pv_network.proofs.calls.Calls.open.Given as goal

-- there is no call at as many as were counted
abbrev pub invariant-loop : goal.invariant-loop
invariant-loop l = l.ports.items ≡ replicate l.counter None
