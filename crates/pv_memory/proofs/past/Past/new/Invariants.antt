use Rattle.std.proofs.Common.{◌≡◌, length}
use Rattle.pv_memory.proofs.past.Past.new.Given as goal

abbrev pub invariant-loop-i : goal.invariant-loop-i
invariant-loop-i l = length l.steps.items ≡ l._i
