use Rattle.std.proofs.Common.{◌≡◌, ◌++◌, None, drop}
use Rattle.std.specs.Prelude.{replicate}
use Rattle.pv_network.proofs.calls.free_all.Given as goal

-- there is no call at the ports before this one
abbrev pub invariant-loop-port : goal.invariant-loop-port
invariant-loop-port l = l.port-items ≡ replicate l.port-index None ++ drop l.port-index l.fn.ports.items
