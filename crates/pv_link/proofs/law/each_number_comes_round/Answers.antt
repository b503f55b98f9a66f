use Rattle.pv_link.proofs.Rounds.{each_comes, as_many}
use Rattle.pv_link.proofs.law.each_number_comes_round.Goals as goal

pub returns-clause-each : goal.returns-clause-each
returns-clause-each c = λ end front number. each_comes front end number

pub returns-clause-once : goal.returns-clause-once
returns-clause-once c = λ end front. as_many front end
