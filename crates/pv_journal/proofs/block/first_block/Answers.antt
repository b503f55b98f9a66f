use Rattle.std.proofs.Common.{rules}
use Rattle.pv_journal.proofs.Reading.{has_block}
use Rattle.pv_journal.proofs.block.first_block.Goals as goal

pub returns-else-size-rest : goal.returns-else-size-rest
returns-else-size-rest c = search (rules, has_block)
