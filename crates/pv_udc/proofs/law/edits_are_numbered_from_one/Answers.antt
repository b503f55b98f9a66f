use Rattle.pv_udc.proofs.Numbering.{numbers_of-judged}
use Rattle.pv_udc.proofs.law.edits_are_numbered_from_one.Goals as goal

pub returns : goal.returns
returns c limits records editor judged = numbers_of-judged editor limits records judged
