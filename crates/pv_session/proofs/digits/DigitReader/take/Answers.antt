use Rattle.std.proofs.Common.{sym, subst}
use Rattle.std.specs.Str.Parse.{AllDigits}
use Rattle.pv_session.proofs.TenDigits.{AllDigits-more, ten_digits}
use Rattle.pv_session.proofs.digits.DigitReader.take.Goals as goal

-- the digits so far are digits
pub invariant_of-self : goal.invariant_of-self
invariant_of-self c =
    rw c.in_err-digits.ensures.waits
    (AllDigits-more c.self.inside.digits c.args.byte _ (sym c.is_ascii_digit.ensures.value) c.self.invariant)

-- ten digits are an account's, so that they are not kept
pub returns-clause-waits : goal.returns-clause-waits
returns-clause-waits c = λ none.
    let found = c.in_ok-digits.ensures.whole.found in
    let digits = AllDigits-more c.self.inside.digits c.args.byte _ (sym c.is_ascii_digit.ensures.value) c.self.invariant in
    absurd (ten_digits c.in_ok-digits.digits c.of_digits.result (subst (AllDigits 10) found.1 digits) found.0 c.of_digits.ensures.only none)
