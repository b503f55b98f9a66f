use Rattle.std.proofs.Common.{rules}
use Rattle.pv_journal.proofs.Moments.{only_weaker, only_then, time_weaker}
use Rattle.pv_journal.proofs.law.settle_then_append.Goals as goal

pub returns : goal.returns
returns g c = search (rules, only_then, only_weaker, time_weaker)
