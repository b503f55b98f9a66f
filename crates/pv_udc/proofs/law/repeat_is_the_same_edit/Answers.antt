use Rattle.pv_udc.proofs.Repeating.{again-stored}
use Rattle.pv_udc.proofs.law.repeat_is_the_same_edit.Goals as goal

pub returns-clause-stored : goal.returns-clause-stored
returns-clause-stored c = again-stored
