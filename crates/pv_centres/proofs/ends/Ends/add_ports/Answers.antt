use Rattle.std.proofs.Common.{◌∙◌, append_assoc, arith}
use Rattle.std.proofs.lemmas.Grind.{common_steps}
use Rattle.pv_centres.proofs.Adding.{added_more}
use Rattle.pv_centres.proofs.ends.Ends.add_ports.Goals as goal

-- one more is added
pub loop-report-preserved : goal.loop-report-preserved
loop-report-preserved g c =
    let added = c.add_port.ensures in
    record {
      all = grind (arith, common_steps, append_assoc);
      added = added_more _ c.in-Some.report _ _ _ c.loop-report.invariant.added added.door added.disk;
      no_room = added.no_room ∙ c.loop-report.invariant.no_room;
    }
