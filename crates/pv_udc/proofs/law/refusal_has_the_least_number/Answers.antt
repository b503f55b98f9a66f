use Rattle.pv_udc.proofs.Least.{refusal_of-least}
use Rattle.pv_udc.proofs.law.refusal_has_the_least_number.Goals as goal

pub returns : goal.returns
returns c = refusal_of-least
