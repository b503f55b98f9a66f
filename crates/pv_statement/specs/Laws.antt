-- What the statements of all months have to do with the bill.
use Rattle.std.specs.Prelude.{ℕ, zero, suc, ◌+◌, ◌-◌, ◌≤◌, List, [], ◌++◌, map}
use Rattle.std.specs.List.{range_with_len, sum_by, AllByRecursion}
use Rattle.pv_charge.specs.declared.line.TheConstants.{LAST_MOMENT}
use Rattle.pv_edits.specs.declared.record.Record.{Record}
use Rattle.pv_udc.specs.Bills.{billed_lines}
use Rattle.pv_statement.specs.Statement.{month_pence}
use Rattle.pv_statement.specs.declared.month.TheConstants.{FIRST_YEAR, LAST_YEAR, MONTHS}

-- the months of a year, each with its year
abbrev pub months_of_year : ℕ → List (ℕ × ℕ)
months_of_year year = map (λ month. (year, month)) (range_with_len 1 MONTHS)

-- the months of so many years, from a year on
unfoldable pub months_from : ℕ → ℕ → List (ℕ × ℕ)
months_from year zero = []
months_from year (suc count) = months_of_year year ++ months_from (year + 1) count

-- the months that a statement may be of
abbrev pub all_months : List (ℕ × ℕ)
all_months = months_from FIRST_YEAR (LAST_YEAR + 1 - FIRST_YEAR)

-- the sum of an account's statements for these months
abbrev pub pence_of_months : List Record → ℕ → List (ℕ × ℕ) → ℕ
pence_of_months records account months = sum_by (λ month. month_pence records account month.0 month.1) months

-- no line of the account is of a later moment than a record can name
abbrev pub HaveMoments : List Record → ℕ → Type 0
HaveMoments records account = AllByRecursion (λ line. line.moment ≤ LAST_MOMENT) (billed_lines records account)
