-- The sums of months that follow one another add up to the sum of the lines up to the last of them.
use Rattle.std.proofs.Common.{◌≡◌, ℕ, zero, suc, ◌+◌, ◌-◌, ◌<◌, ◌≤◌, Bool, true, false, cond, ◌&&◌, nat_le, nat_lt, List, [], ◌∷◌, ◌++◌, map, flat_map, filter, refl, sym, ap, ◌∙◌, arith}
use Rattle.std.specs.List.{sum_by, range_with_len, AllByRecursion}
use Rattle.std.proofs.lemmas.Bool.Decides.{nat_tests}
use Rattle.std.proofs.lemmas.List.Sums.{sum_by-append, sum_by-cons}
use Rattle.pv_charge.specs.Line.{Charge}
use Rattle.pv_charge.specs.declared.line.TheConstants.{LAST_MOMENT}
use Rattle.pv_edits.specs.declared.record.Record.{Record}
use Rattle.pv_udc.specs.Bills.{billed_lines, billed_pence}
use Rattle.pv_statement.specs.Laws.{months_of_year, months_from, all_months, pence_of_months, HaveMoments}
use Rattle.pv_statement.specs.Months.{day_of_moment, first_day, end_day, is_in_month}
use Rattle.pv_statement.specs.Statement.{month_pence}
use Rattle.pv_statement.specs.declared.month.TheConstants.{FIRST_YEAR, LAST_YEAR, MONTHS}
use Rattle.pv_statement.proofs.Dates.{first_day-next, first_day-year, first_day-1970, first_day-2100}

-- the price of a line
abbrev price_of : Charge → ℕ
price_of line = line.price

-- the sum of the lines that pass a test
abbrev pence_where : (Charge → Bool) → List Charge → ℕ
pence_where test lines = sum_by price_of (filter test lines)

-- the sum of the lines of earlier days
abbrev pence_before : ℕ → List Charge → ℕ
pence_before day lines = pence_where (λ line. nat_lt (day_of_moment line.moment) day) lines

-- one line more adds its price if it passes
pence-cond : (test : Bool) (line : Charge) (lines : List Charge)
    → sum_by price_of (cond test (line ∷ lines) lines) ≡ cond test line.price 0 + sum_by price_of lines
pence-cond true line lines = sum_by-cons price_of line lines
pence-cond false line lines = omega arith

-- a line of an earlier day, or of these days, is one before their end
gap : (day first end price : ℕ) → first ≤ end
    → cond (nat_le first day && nat_lt day end) price 0 + cond (nat_lt day first) price 0 ≡ cond (nat_lt day end) price 0
gap day first end price within = grind (arith, nat_tests)

-- the lines of some days, and those before them
days_add : (first end : ℕ) (lines : List Charge) → first ≤ end
    → pence_where (λ line. nat_le first (day_of_moment line.moment) && nat_lt (day_of_moment line.moment) end) lines + pence_before first lines
    ≡ pence_before end lines
days_add first end [] within = refl
days_add first end (line ∷ lines) within =
    let day = day_of_moment line.moment in
    let of_days : Charge → Bool = λ line. nat_le first (day_of_moment line.moment) && nat_lt (day_of_moment line.moment) end in
    let before : Charge → Bool = λ line. nat_lt (day_of_moment line.moment) first in
    let until : Charge → Bool = λ line. nat_lt (day_of_moment line.moment) end in
    omega (
      arith,
      pence-cond (of_days line) line (filter of_days lines),
      pence-cond (before line) line (filter before lines),
      pence-cond (until line) line (filter until lines),
      gap day first end line.price within,
      days_add first end lines within,
    )

module _ (records : List Record) (account : ℕ) where
  -- the lines of the bill
  abbrev bill : List Charge
  bill = billed_lines records account

  -- a month, and what lies before it
  month_adds : (year month : ℕ) → month_pence records account year month + pence_before (first_day year month) bill ≡ pence_before (end_day year month) bill
  month_adds year month = days_add (first_day year month) (end_day year month) bill (omega arith)

  -- months of a year that follow one another
  months_add : (year : ℕ) → FIRST_YEAR ≤ year → (count first : ℕ) → 1 ≤ first
      → pence_of_months records account (map (λ month. (year, month)) (range_with_len first count)) + pence_before (first_day year first) bill
      ≡ pence_before (first_day year (first + count)) bill
  months_add year from zero first some =
      let same : first ≡ first + 0 = omega arith in omega (arith, ap (λ (m : ℕ). pence_before (first_day year m) bill) same)
  months_add year from (suc count) first some =
      let same : first + 1 + count ≡ first + suc count = omega arith in
      let of_month : ℕ × ℕ → ℕ = λ month. month_pence records account month.0 month.1 in
      omega (
        arith,
        sum_by-cons of_month (year, first) (map (λ month. (year, month)) (range_with_len (first + 1) count)),
        month_adds year first,
        ap (λ (d : ℕ). pence_before d bill) (first_day-next year from first some),
        months_add year from count (first + 1) (omega arith),
        ap (λ (m : ℕ). pence_before (first_day year m) bill) same,
      )

  -- a year
  year_adds : (year : ℕ) → FIRST_YEAR ≤ year
      → pence_of_months records account (months_of_year year) + pence_before (first_day year 1) bill ≡ pence_before (first_day (year + 1) 1) bill
  year_adds year from =
      months_add year from MONTHS 1 (omega arith) ∙ ap (λ (d : ℕ). pence_before d bill) (first_day-year year from)

  -- years that follow one another
  years_add : (count first : ℕ) → FIRST_YEAR ≤ first
      → pence_of_months records account (months_from first count) + pence_before (first_day first 1) bill
      ≡ pence_before (first_day (first + count) 1) bill
  unfolding months_from
  years_add zero first from =
      let same : first ≡ first + 0 = omega arith in omega (arith, ap (λ (y : ℕ). pence_before (first_day y 1) bill) same)
  years_add (suc count) first from =
      let same : first + 1 + count ≡ first + suc count = omega arith in
      let parts = sum_by-append (λ month. month_pence records account month.0 month.1) (months_of_year first) (months_from (first + 1) count) in
      omega (
        arith,
        parts,
        year_adds first from,
        years_add count (first + 1) (omega arith),
        ap (λ (y : ℕ). pence_before (first_day y 1) bill) same,
      )

-- nothing lies before day 0
none_before : (lines : List Charge) → pence_before 0 lines ≡ 0
none_before [] = refl
none_before (line ∷ lines) =
    let test : Charge → Bool = λ line. nat_lt (day_of_moment line.moment) 0 in
    let late : test line ≡ false = grind (arith, nat_tests) in
    let head : cond (test line) line.price 0 ≡ 0 = rw late refl in
    omega (arith, pence-cond (test line) line (filter test lines), head, none_before lines)

-- each line lies before 2100
all_before : (lines : List Charge) → AllByRecursion (λ line. line.moment ≤ LAST_MOMENT) lines → pence_before 47_482 lines ≡ sum_by price_of lines
all_before [] dated = refl
all_before (line ∷ lines) dated =
    let early : nat_lt (day_of_moment line.moment) 47_482 ≡ true = let low : day_of_moment line.moment < 47_482 = omega (arith, dated.0) in grind (arith, nat_tests) in
    let test : Charge → Bool = λ line. nat_lt (day_of_moment line.moment) 47_482 in
    let head : cond (test line) line.price 0 ≡ line.price = rw early refl in
    omega (arith, pence-cond (test line) line (filter test lines), head, sum_by-cons price_of line lines, all_before lines dated.1)

-- all months add up to the bill
pub all_months_add : (records : List Record) (account : ℕ) → HaveMoments records account
    → pence_of_months records account all_months ≡ billed_pence records account
all_months_add records account dated =
    let lines = billed_lines records account in
    omega (
      arith,
      years_add records account (LAST_YEAR + 1 - FIRST_YEAR) FIRST_YEAR (omega arith),
      ap (λ (d : ℕ). pence_before d lines) first_day-1970,
      ap (λ (d : ℕ). pence_before d lines) first_day-2100,
      none_before lines,
      all_before lines dated,
    )
