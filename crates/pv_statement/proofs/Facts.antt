-- Worked examples of statements, computed from the definitions.
use Rattle.std.proofs.Common.{◌≡◌, true, false, [], ◌∷◌, ◌++◌, codes, refl}
use Rattle.std.specs.Fmt.{digits}
use Rattle.pv_charge.specs.declared.line.TheConstants.{LAST_MOMENT}
use Rattle.pv_statement.specs.Months.{day_of_moment}
use Rattle.pv_statement.specs.Statement.{two_digits, date_text, time_text, head_text, sum_text}

-- the last day that a charge line may be of
pub last_day : day_of_moment LAST_MOMENT ≡ 47_481
last_day = refl

-- one digit gets a zero before it
pub one_digit : two_digits 7 ++ two_digits 59 ≡ codes "0759"
one_digit = refl

-- a date, and the last second of a day
pub one_date : date_text 1980 1 31 ≡ codes "1980-01-31"
unfolding digits
one_date = refl

pub last_second : time_text 318_211_199 ++ time_text 318_211_200 ≡ codes "23:59:5900:00:00"
last_second = refl

-- the first line and the last
pub first_line : head_text 1_000_000_001 1980 1 ++ sum_text 0 ≡ codes "STATEMENT 1000000001 1980-01\nSUM 0\n"
unfolding digits
first_line = refl
