use Rattle.pv_closing.proofs.Laws.{all_taken, all_applied}
use Rattle.pv_closing.proofs.law.everything_lacked_makes_the_counts_equal.Goals as goal

pub returns-clause-items : goal.returns-clause-items
returns-clause-items c = all_taken

pub returns-clause-records : goal.returns-clause-records
returns-clause-records c = all_applied
