use Rattle.std.proofs.Common.{◌≡◌, ◌+◌, ◌++◌, length}
use Rattle.left_right.specs.Handles.{published, pending}
use Rattle.pv_group.proofs.desk.publish_first.Given as goal

-- what waits is as it was, and `counter` changes are handed over
abbrev pub invariant-loop : goal.invariant-loop
invariant-loop g l =
    (published l.writer ≡ published l.fn.writer)
    × (pending l.writer ++ l.changes.items ≡ pending l.fn.writer ++ l.fn.changes.items)
    × (length l.changes.items + l.counter ≡ length l.fn.changes.items)
