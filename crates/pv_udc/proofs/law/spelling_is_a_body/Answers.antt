use Rattle.pv_udc.specs.Sizes.{IsBody-record}
use Rattle.pv_udc.proofs.law.spelling_is_a_body.Goals as goal

pub returns : goal.returns
returns c = IsBody-record
