use Rattle.std.proofs.Common.{◌≡◌, ◌++◌}
use Rattle.std.specs.Vec.Iter.{into_iter_items}
use Rattle.pv_centres.specs.Ends.{HaveBeenAdded}
use Rattle.pv_centres.proofs.ends.Ends.add_ports.Given as goal

-- those up to here are added
abbrev pub invariant-loop-report : goal.invariant-loop-report
invariant-loop-report g l = record {
  all : l.yielded ++ into_iter_items l.report-iterator ≡ l.fn.reports.items;
  added : HaveBeenAdded l.yielded l.fn.self l.self;
  no_room : l.self.no_room ≡ l.fn.self.no_room;
}
