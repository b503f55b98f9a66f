use Rattle.pv_fields.proofs.Readings.{Reads-back, Reads-two, Reads-four, Reads-eight}
use Rattle.pv_fields.proofs.law.numbers_are_read_back.Goals as goal

pub returns-clause-two : goal.returns-clause-two
returns-clause-two c = Reads-back _ _ _ Reads-two

pub returns-clause-four : goal.returns-clause-four
returns-clause-four c = Reads-back _ _ _ Reads-four

pub returns-clause-eight : goal.returns-clause-eight
returns-clause-eight c = Reads-back _ _ _ Reads-eight
