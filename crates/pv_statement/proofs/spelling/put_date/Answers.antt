use Rattle.std.proofs.Common.{◌≡◌, ℕ, ◌+◌, ◌-◌, subst, arith}
use Rattle.pv_fields.specs.Out.{Appends}
use Rattle.pv_fields.proofs.CallerLemmas.{appends_then}
use Rattle.pv_statement.specs.Months.{day_of_moment}
use Rattle.pv_statement.specs.Statement.{two_digits}
use Rattle.pv_statement.proofs.spelling.put_date.Goals as goal

pub returns-clause-appends : goal.returns-clause-appends
returns-clause-appends c =
    let day = subst (λ (first : ℕ). Appends c.put_run.new.self c.put_two.new.out (two_digits (day_of_moment c.args.moment - first + 1)))
    c.args.month.now.begins c.put_two.ensures in
    appends_then (appends_then c.put_month.ensures.appends c.put_run.ensures.appends) day
