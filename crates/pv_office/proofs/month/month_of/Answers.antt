use Rattle.std.proofs.Common.{◌≡◌, arith, refl}
use Rattle.pv_office.proofs.Words.{length-month, year-part, month-part}
use Rattle.pv_office.proofs.month.month_of.Goals as goal

-- it is shorter than a month
pub returns-then-text-lt-YEAR_DIGITS-clause-only : goal.returns-then-text-lt-YEAR_DIGITS-clause-only
returns-then-text-lt-YEAR_DIGITS-clause-only c = λ year month is same.
    let size = length-month year month is c.args.text.now same in
    absurd (omega (arith, size, c.if-text-lt-YEAR_DIGITS.true))

-- its first four bytes write no year
pub returns-in_err-year-clause-only : goal.returns-in_err-year-clause-only
returns-in_err-year-clause-only c = λ year month is same.
    absurd (let no = c.in_err-year.ensures.only year is.year (year-part year month is c.args.text.now same) in cc)

-- the others write no month
pub returns-in_err-month-clause-only : goal.returns-in_err-month-clause-only
returns-in_err-month-clause-only c = λ year month is same.
    absurd (let no = c.in_err-month.ensures.only month is.month (month-part year month is c.args.text.now same) in cc)

-- they write this year and this month
pub returns-clause-only : goal.returns-clause-only
returns-clause-only c = λ year month is same.
    let one = c.in_ok-year.ensures.only year is.year (year-part year month is c.args.text.now same) in
    let two = c.in_ok-month.ensures.only month is.month (month-part year month is c.args.text.now same) in
    let year_is : c.in_ok-year.year ≡ year = cc in
    let month_is : c.in_ok-month.month ≡ month = cc in
    rw (year_is, month_is) refl
