use Rattle.pv_ports.proofs.Counting.{told_session, failed_session}
use Rattle.pv_ports.proofs.law.edits_are_counted.Goals as goal

pub returns-clause-told : goal.returns-clause-told
returns-clause-told c = λ limits opening happened start pass seat said is. told_session _ limits opening happened start pass seat said is

pub returns-clause-failed : goal.returns-clause-failed
returns-clause-failed c = λ limits opening happened start pass seat said is.
    failed_session _ limits opening happened start pass seat said is
