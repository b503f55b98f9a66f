use Rattle.std.proofs.Common.{sym, ◌∙◌, append_assoc, arith}
use Rattle.std.proofs.lemmas.Grind.{common_steps}
use Rattle.pv_centres.specs.Ends.{carrier_end}
use Rattle.pv_centres.proofs.Adding.{none_there, quiet_more}
use Rattle.pv_centres.proofs.ends.Ends.add_carriers.Goals as goal

-- one more is added
pub loop-report-preserved : goal.loop-report-preserved
loop-report-preserved g c =
    let added = c.add_carrier.ensures in
    let before = c.loop-report.invariant in
    let report = c.in-Some.report in
    record {
      all = grind (arith, common_steps, append_assoc);
      door = added.door ∙ before.door;
      disk = λ none. before.disk (none_there c.loop-report.self.disk (carrier_end report.fault) (sym added.disk ∙ none)).0;
      quiet = λ memory none. quiet_more _ report c.loop-report.self c.add_carrier.new.self before.quiet added.memory added.disk memory none;
      no_room = added.no_room ∙ before.no_room;
    }
