use Rattle.std.proofs.Common.{◌≡◌, ◌++◌, map}
use Rattle.std.specs.Vec.Iter.{into_iter_items}
use Rattle.pv_centres.proofs.callers_row.take_callers.Given as goal

-- the stands up to here are taken apart
abbrev pub invariant-loop-stand : goal.invariant-loop-stand
invariant-loop-stand g l = record {
  all : l.yielded ++ into_iter_items l.stand-iterator ≡ l.fn.stands.items;
  passes : l.passes.items ≡ l.fn.passes.items ++ map (λ s. s.port.pass) l.yielded;
  doors : l.doors.items ≡ l.fn.doors.items ++ map (λ s. s.door.value) l.yielded;
  reports : l.reports.items ≡ l.fn.reports.items ++ map (λ s. s.report.value) l.yielded;
}
