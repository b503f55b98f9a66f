use Rattle.std.proofs.Common.{◌≡◌, ◌<◌, ◌≤◌, ◌++◌, map, vec_len, vec_capacity}
use Rattle.std.specs.Prelude.{All}
use Rattle.std.specs.Vec.Iter.{into_iter_items}
use Rattle.pv_service.specs.declared.caller_stand.TheConstants.{MAX_ACCEPTED}
use Rattle.pv_centres.proofs.editors_row.row_of_editors.Given as goal

-- the passes up to here stand with their doors, and there is room for the rest
abbrev pub invariant-loop-pass : goal.invariant-loop-pass
invariant-loop-pass g l = record {
  all : l.yielded ++ into_iter_items l.pass-iterator ≡ l.fn.passes.items;
  passes : map (λ s. s.port.pass) l.stands.items ≡ l.yielded;
  doors : map (λ s. s.door.value) l.stands.items ++ into_iter_items l.doors ≡ l.fn.doors.items;
  calls : All (λ s. s.calls ≡ l.fn.calls) l.stands.items;
  fresh : All (λ s. g.O.Door.accepted s.door.value < MAX_ACCEPTED) l.stands.items;
  waiting : All (λ d. g.O.Door.accepted d < MAX_ACCEPTED) (into_iter_items l.doors);
  room : vec_len l.fn.doors ≤ vec_capacity l.stands;
}
