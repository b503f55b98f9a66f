use Rattle.std.proofs.Common.{◌≡◌, ◌≤◌, ◌++◌, map, vec_len, vec_capacity}
use Rattle.std.specs.Vec.Iter.{into_iter_items}
use Rattle.pv_outside.specs.Slots.{slot_of}
use Rattle.pv_outside.proofs.slots.with_jobs.Given as goal

-- the jobs up to here stand in slots, and there is room for the rest
abbrev pub invariant-loop-job : goal.invariant-loop-job
invariant-loop-job g l = record {
  jobs : l.yielded ++ into_iter_items l.job-iterator ≡ l.fn.jobs.items;
  slots : l.slots.items ≡ map slot_of l.yielded;
  room : vec_len l.fn.jobs ≤ vec_capacity l.slots;
}
