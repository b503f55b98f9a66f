use Rattle.std.proofs.Common.{◌≡◌, ◌≤◌, ◌++◌, map, Some, vec_len, vec_capacity}
use Rattle.std.specs.Vec.Iter.{into_iter_items}
use Rattle.pv_outside.proofs.slots.done_of.Given as goal

-- what the jobs up to here returned was collected, and there is room for the rest
abbrev pub invariant-loop-slot : goal.invariant-loop-slot
invariant-loop-slot g l = record {
  slots : l.yielded ++ into_iter_items l.slot-iterator ≡ l.fn.slots.items;
  done : map Some l.done.items ≡ map (λ s. s.done) l.yielded;
  room : vec_len l.fn.slots ≤ vec_capacity l.done;
}
