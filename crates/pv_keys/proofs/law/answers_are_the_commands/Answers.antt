use Rattle.pv_keys.proofs.Answering.{some_answers}
use Rattle.pv_keys.proofs.Laws.{new_answers, first_answers, one_way}
use Rattle.pv_keys.proofs.law.answers_are_the_commands.Goals as goal

pub returns-clause-commands : goal.returns-clause-commands
returns-clause-commands c = new_answers

pub returns-clause-ends : goal.returns-clause-ends
returns-clause-ends c = first_answers

pub returns-clause-some : goal.returns-clause-some
returns-clause-some c = some_answers

pub returns-clause-one : goal.returns-clause-one
returns-clause-one c = one_way
