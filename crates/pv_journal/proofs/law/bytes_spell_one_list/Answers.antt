use Rattle.pv_journal.proofs.Unique.{same_spelled}
use Rattle.pv_journal.proofs.law.bytes_spell_one_list.Goals as goal

pub returns : goal.returns
returns c = same_spelled
