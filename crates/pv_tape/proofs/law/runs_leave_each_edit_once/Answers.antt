use Rattle.pv_tape.proofs.Runs.{runs_leave, whole_leaves}
use Rattle.pv_tape.proofs.law.runs_leave_each_edit_once.Goals as goal

pub returns-clause-prefix : goal.returns-clause-prefix
returns-clause-prefix c = runs_leave

pub returns-clause-whole : goal.returns-clause-whole
returns-clause-whole c = whole_leaves
