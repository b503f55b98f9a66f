use Rattle.std.proofs.Common.{Some}
use Rattle.std.proofs.lemmas.List.Elements.{All-pop}
use Rattle.pv_centres.specs.Carried.{IsQuiet}
use Rattle.pv_centres.proofs.collected.Collected.take_carrier.Goals as goal

-- its report is the last one
pub returns-clause-quiet : goal.returns-clause-quiet
returns-clause-quiet g c = λ quiet.
    let each = All-pop IsQuiet c.put.new.all.items c.args.self.now.carriers.items (Some c.into_parts-report.result.0)
    c.in_ok-put.ensures.items quiet in
    (each.0, rw c.in-Some.is (c.into_parts-report.ensures.stored each.1))
