use Rattle.std.proofs.Common.{◌≡◌}
use Rattle.std.specs.Io.KnownBytes.{Keeps}
use Rattle.pv_web.specs.Messages.{keys_to_come}
use Rattle.pv_web.proofs.line.await_keys.Given as goal

-- no key was lost and none came twice
abbrev pub invariant-loop : goal.invariant-loop
invariant-loop g l = record {
  kept : Keeps (keys_to_come l.fn.waiting (g.M.Messages.coming l.fn.messages)) (keys_to_come l.waiting (g.M.Messages.coming l.messages));
  written : g.M.Messages.written l.messages ≡ g.M.Messages.written l.fn.messages;
}
