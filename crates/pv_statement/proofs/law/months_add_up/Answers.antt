use Rattle.pv_statement.proofs.MonthSums.{all_months_add}
use Rattle.pv_statement.proofs.law.months_add_up.Goals as goal

pub returns : goal.returns
returns c = all_months_add
