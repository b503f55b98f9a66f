use Rattle.std.proofs.Common.{◌≡◌, ◌≤◌, ◌<◌, ℕ, ℤ, pos, negsuc, unsigned_abs, w8, w16, w32, to_z, ap, ◌∙◌, arith}
use Rattle.std.proofs.lemmas.Int.{to_z_pos}
use Rattle.jiff_core.specs.Calendar.{days_from_civil, days_in_month, IsEpochDay}
use Rattle.jiff_core.specs.declared.civil.date.Date.{Date}
use Rattle.jiff_core.proofs.CalendarLemmas.{days_in_month_bounds}
use Rattle.jiff_core.proofs.SignedLemmas.{signed_arith, back_small}
use Rattle.pv_statement.specs.Months.{IsMonth, first_day, month_days}
use Rattle.pv_statement.proofs.month.Month.new.Goals as goal

-- a day that the library has is far from the ends of 32 bits
bounded : (z : ℤ) → IsEpochDay z → unsigned_abs z < 2147483648
bounded (pos n) within = omega (arith, signed_arith, within.1)
bounded (negsuc n) within = omega (arith, signed_arith, within.0)

-- the first day of a month that is named by signed numbers
begins : (d : Date) (y m : ℕ) → IsMonth y m → d.year ≡ to_z w16 y → pos d.month ≡ to_z w8 m → pos d.day ≡ pos 1
    → unsigned_abs (days_from_civil d.year d.month d.day) ≡ first_day y m
begins d y m valid year month day =
    let y_is : d.year ≡ pos y = year ∙ to_z_pos w16 y (omega (arith, valid.year.1)) in
    let m_is : d.month ≡ m = ap unsigned_abs (month ∙ to_z_pos w8 m (omega (arith, valid.month.1))) in
    let d_is : d.day ≡ 1 = ap unsigned_abs day in
    λ i. unsigned_abs (days_from_civil (y_is i) (m_is i) (d_is i))

-- and how many days it has
lasts : (d : Date) (y m : ℕ) → IsMonth y m → d.year ≡ to_z w16 y → pos d.month ≡ to_z w8 m → days_in_month d.year d.month ≡ month_days y m
lasts d y m valid year month =
    let y_is : d.year ≡ pos y = year ∙ to_z_pos w16 y (omega (arith, valid.year.1)) in
    let m_is : d.month ≡ m = ap unsigned_abs (month ∙ to_z_pos w8 m (omega (arith, valid.month.1))) in
    λ i. days_in_month (y_is i) (m_is i)

pub invariant_of-result-clause-begins : goal.invariant_of-result-clause-begins
invariant_of-result-clause-begins c =
    let d = c.date-first.ensures in
    let day = c.to_unix_epoch_day.result in
    c.unsigned_abs.ensures.value ∙ ap unsigned_abs (back_small w32 day (bounded day c.to_unix_epoch_day.ensures.bound)) ∙ ap unsigned_abs c.to_unix_epoch_day.ensures.value
    ∙ ap (λ (date : Date). unsigned_abs (days_from_civil date.year date.month date.day)) c.to_plain.ensures
    ∙ begins c.date-first.result c.args.year c.args.number c.requires d.0 d.1 d.2

pub invariant_of-result-clause-lasts : goal.invariant_of-result-clause-lasts
invariant_of-result-clause-lasts c =
    let d = c.date-first.ensures in
    let days = c.days_in_month.result in
    let is : unsigned_abs days ≡ days_in_month c.date-first.result.year c.date-first.result.month = ap unsigned_abs c.days_in_month.ensures in
    let small : unsigned_abs days < 128 = omega (arith, is, (days_in_month_bounds c.date-first.result.year c.date-first.result.month).0) in
    c.unsigned_abs-2.ensures.value ∙ ap unsigned_abs (back_small w8 days small) ∙ is
    ∙ lasts c.date-first.result c.args.year c.args.number c.requires d.0 d.1
