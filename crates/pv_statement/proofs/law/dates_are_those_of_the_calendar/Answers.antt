use Rattle.pv_statement.proofs.Dates.{date_written, date_only}
use Rattle.pv_statement.proofs.law.dates_are_those_of_the_calendar.Goals as goal

pub returns-clause-written : goal.returns-clause-written
returns-clause-written c = date_written

pub returns-clause-only : goal.returns-clause-only
returns-clause-only c = λ year month day moment valid is. date_only year month moment valid day is
