use Rattle.std.proofs.Common.{◌≡◌, ◌<◌, ◌≤◌, ◌++◌, vec_len, vec_capacity}
use Rattle.std.specs.Prelude.{All}
use Rattle.std.specs.Vec.Iter.{into_iter_items}
use Rattle.pv_service.specs.declared.caller_stand.TheConstants.{MAX_ACCEPTED}
use Rattle.pv_centres.proofs.doors.next_doors.Given as goal

-- as many doors were taken as were counted
abbrev pub invariant-loop : goal.invariant-loop
invariant-loop g l = record {
  doors : into_iter_items l.fn.doors ≡ l.next.items ++ into_iter_items l.doors;
  fresh : All (λ d. g.O.Door.accepted d < MAX_ACCEPTED) l.next.items;
  waiting : All (λ d. g.O.Door.accepted d < MAX_ACCEPTED) (into_iter_items l.doors);
  count : vec_len l.next ≡ l.counter;
  room : l.fn.count ≤ vec_capacity l.next;
}
