use Rattle.std.proofs.Common.{◌≡◌, ◌++◌, false, None}
use Rattle.std.specs.Vec.Iter.{into_iter_items}
use Rattle.pv_centres.specs.Carried.{AreQuiet}
use Rattle.pv_centres.proofs.ends.Ends.add_carriers.Given as goal

-- adding carriers leaves the doors as they were, and clears no failure; if nothing was met, none of them has met anything
abbrev pub invariant-loop-report : goal.invariant-loop-report
invariant-loop-report g l = record {
  all : l.yielded ++ into_iter_items l.report-iterator ≡ l.fn.reports.items;
  door : l.self.door ≡ l.fn.self.door;
  disk : l.self.disk ≡ None → l.fn.self.disk ≡ None;
  quiet : l.self.memory ≡ false → l.self.disk ≡ None → AreQuiet l.yielded;
  no_room : l.self.no_room ≡ l.fn.self.no_room;
}
