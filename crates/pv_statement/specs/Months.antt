-- Months of the Gregorian calendar, and the days and times of moments.
use Rattle.std.specs.Prelude.{◌≡◌, ℕ, ◌+◌, ◌-◌, ◌*◌, ◌/◌, ◌%◌, ◌&&◌, nat_le, nat_lt, Bool, pos, unsigned_abs}
use Rattle.std.specs.Int.{IsInRange}
use Rattle.jiff_core.specs.Calendar.{days_from_civil, days_in_month, IsCivilDate}
use Rattle.pv_statement.specs.declared.month.TheConstants.{FIRST_YEAR, LAST_YEAR, MONTHS}
use Rattle.pv_statement.specs.declared.spelling.TheConstants.{DAY_SECONDS, HOUR_SECONDS, MINUTE_SECONDS}

-- a month that a statement may be of
pub record IsMonth (y m : ℕ) : Type 0 where
  pub year : IsInRange FIRST_YEAR LAST_YEAR y
  pub month : IsInRange 1 MONTHS m

-- how many days a date comes after 1970-01-01
abbrev pub day_of_date : ℕ → ℕ → ℕ → ℕ
day_of_date year month day = unsigned_abs (days_from_civil (pos year) month day)

-- how many days a moment comes after 1970-01-01
abbrev pub day_of_moment : ℕ → ℕ
day_of_moment moment = moment / DAY_SECONDS

-- the date is the one that a moment lies in
abbrev pub IsDateOf : ℕ → ℕ → ℕ → ℕ → Type 0
IsDateOf year month day moment = IsCivilDate (pos year) month day × (day_of_date year month day ≡ day_of_moment moment)

-- ---- by months

-- the first day of a month, and how many days it has
abbrev pub first_day : ℕ → ℕ → ℕ
first_day year month = day_of_date year month 1

abbrev pub month_days : ℕ → ℕ → ℕ
month_days year month = days_in_month (pos year) month

-- the first day after a month
abbrev pub end_day : ℕ → ℕ → ℕ
end_day year month = first_day year month + month_days year month

-- the moment's day is one of the month's
abbrev pub is_in_month : ℕ → ℕ → ℕ → Bool
is_in_month year month moment =
    nat_le (first_day year month) (day_of_moment moment) && nat_lt (day_of_moment moment) (end_day year month)

-- which of the month's days it is, from 1
abbrev pub day_in_month : ℕ → ℕ → ℕ → ℕ
day_in_month year month moment = day_of_moment moment - first_day year month + 1

-- ---- the time in the day

abbrev pub hour_of : ℕ → ℕ
hour_of moment = moment % DAY_SECONDS / HOUR_SECONDS

abbrev pub minute_of : ℕ → ℕ
minute_of moment = moment % HOUR_SECONDS / MINUTE_SECONDS

abbrev pub second_of : ℕ → ℕ
second_of moment = moment % MINUTE_SECONDS
