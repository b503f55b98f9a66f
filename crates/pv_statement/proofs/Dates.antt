-- The days of months: which day a date is, and that a month begins where the one before ends.
use Rattle.std.proofs.Common.{◌≡◌, ℕ, suc, ◌+◌, ◌-◌, ◌<◌, ◌≤◌, inl, inr, true, ℤ, pos, negsuc, neg_ℤ, ◌<ℤ◌, ◌≤ℤ◌, unsigned_abs, refl, sym, ap, ◌∙◌, arith}
use Rattle.std.proofs.lemmas.Bool.{cases_lt}
use Rattle.std.proofs.lemmas.Bool.Decides.{nat_tests}
use Rattle.jiff_core.specs.Calendar.{day_count, days_from_civil, days_in_month, days_in_year, IsCivilDate}
use Rattle.jiff_core.proofs.CalendarLemmas.{day_count-epoch, days_from_civil-day_count, days_of_months_all, day_count-day_of_year, day_count-later_year, day_count-next_year, day_count-next_month, day_count-day}
use Rattle.jiff_core.proofs.MarchLemmas.{day_count-early}
use Rattle.jiff_core.proofs.SignedLemmas.{signed_arith}
use borrow.Author.Differences.{up, down}
use Rattle.pv_statement.specs.Months.{IsMonth, IsDateOf, day_of_date, day_of_moment, first_day, month_days, end_day, is_in_month, day_in_month}
use Rattle.pv_statement.specs.declared.month.TheConstants.{FIRST_YEAR}

-- the day count of 1970-01-01
abbrev epoch : ℕ
epoch = 4_371_953

-- a number that is so many more than another is not negative
not_negative : (z : ℤ) (n k : ℕ) → up z + k ≡ down z + n → k ≤ n → z ≡ pos (unsigned_abs z)
not_negative (pos z) n k is within = refl
not_negative (negsuc z) n k is within = absurd (omega (arith, is))

absolute : (z : ℤ) (n k : ℕ) → up z + k ≡ down z + n → k ≤ n → unsigned_abs z + k ≡ n
absolute (pos z) n k is within = omega (arith, is)
absolute (negsuc z) n k is within = absurd (omega (arith, is))

module _ (year : ℕ) (from : FIRST_YEAR ≤ year) where
  -- no year begins before 1970
  year_from : epoch ≤ day_count (pos year) 1 1
  year_from = elim (cases_lt FIRST_YEAR year) [
    | inl later ↦
        omega (arith, day_count-epoch, day_count-later_year (pos 1970) (pos year) (omega (arith, signed_arith)) (omega (arith, signed_arith, later)))
    | inr not ↦
        let same : 1970 ≡ year = omega arith in
        omega (arith, day_count-epoch, ap (λ (y : ℕ). day_count (pos y) 1 1) same)
  ]

  -- which day a date is
  pub day_of_date-count : (month day : ℕ) → 1 ≤ day → day_of_date year month day + epoch ≡ day_count (pos year) month day
  day_of_date-count month day some =
      let count = day_count-day_of_year (pos year) month day some in
      absolute (days_from_civil (pos year) month day) (day_count (pos year) month day) epoch
      (days_from_civil-day_count (pos year) month day) (omega (arith, count, year_from))

  pub day_of_date-pos : (month day : ℕ) → 1 ≤ day → days_from_civil (pos year) month day ≡ pos (day_of_date year month day)
  day_of_date-pos month day some =
      let count = day_count-day_of_year (pos year) month day some in
      not_negative (days_from_civil (pos year) month day) (day_count (pos year) month day) epoch
      (days_from_civil-day_count (pos year) month day) (omega (arith, count, year_from))

  -- the days of a month follow one another
  pub day_of_date-first : (month day : ℕ) → 1 ≤ day → day_of_date year month day + 1 ≡ first_day year month + day
  day_of_date-first month day some =
      omega (arith, day_of_date-count month day some, day_of_date-count month 1 (omega arith), day_count-day (pos year) month day 1 some (omega arith))

  -- the next month begins where this one ends
  pub first_day-next : (month : ℕ) → 1 ≤ month → first_day year (month + 1) ≡ end_day year month
  first_day-next month some =
      omega (arith, day_of_date-count (month + 1) 1 (omega arith), day_of_date-count month 1 (omega arith), day_count-next_month (pos year) month some)

-- what would be a 13th month begins where the next year does
pub first_day-year : (year : ℕ) → FIRST_YEAR ≤ year → first_day year 13 ≡ first_day (year + 1) 1
first_day-year year from =
    let last = day_count-day_of_year (pos year) 13 1 (omega arith) in
    let next = day_count-next_year (pos year) (pos (year + 1)) (omega (arith, signed_arith)) (omega (arith, signed_arith)) in
    omega (arith, day_of_date-count year from 13 1 (omega arith), day_of_date-count (year + 1) (omega arith) 1 1 (omega arith), last, next, days_of_months_all (pos year))

-- the first day of 1970, and that of 2100
pub first_day-1970 : first_day 1970 1 ≡ 0
first_day-1970 = omega (arith, day_of_date-count 1970 (omega arith) 1 1 (omega arith), day_count-epoch)

pub first_day-2100 : first_day 2100 1 ≡ 47_482
first_day-2100 =
    let count : day_count (pos 2100) 1 1 ≡ 4_419_435 = day_count-early (pos 2100) 12099 1 1 refl (omega arith) (omega arith) (omega arith) in
    omega (arith, day_of_date-count 2100 (omega arith) 1 1 (omega arith), count)

module _ (year month moment : ℕ) (valid : IsMonth year month) where
  -- a moment that lies in a month has the date that is written
  pub date_written : is_in_month year month moment ≡ true → IsDateOf year month (day_in_month year month moment) moment
  date_written inside =
      let bounds : (first_day year month ≤ day_of_moment moment) × (day_of_moment moment < end_day year month) = grind (arith, nat_tests) in
      let day = day_in_month year month moment in
      let first = day_of_date-first year valid.year.0 month day (omega arith) in
      (((omega (arith, signed_arith, valid.year.0, valid.year.1), omega (arith, signed_arith, valid.year.0, valid.year.1)), valid.month, (omega arith, omega (arith, bounds.0, bounds.1))), omega (arith, first, bounds.0))

  -- it has no other date
  pub date_only : (day : ℕ) → IsDateOf year month day moment → (is_in_month year month moment ≡ true) × (day ≡ day_in_month year month moment)
  date_only day is =
      let some : 1 ≤ day = is.0.2.0 in
      let most : day ≤ month_days year month = is.0.2.1 in
      let first = day_of_date-first year valid.year.0 month day some in
      let at = is.1 in
      let low : first_day year month ≤ day_of_moment moment = omega (arith, first, at, some) in
      let high : day_of_moment moment < end_day year month = omega (arith, first, at, most) in
      (grind (arith, nat_tests), omega (arith, first, at, some))
