use Rattle.pv_irc.proofs.Numbering.{places-of_run}
use Rattle.pv_irc.proofs.law.centre_records_are_numbered.Goals as goal

pub returns : goal.returns
returns c = places-of_run
