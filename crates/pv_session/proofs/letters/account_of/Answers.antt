use Rattle.std.proofs.Common.{sym, ◌∙◌}
use Rattle.pv_session.proofs.TenDigits.{account_of_ten}
use Rattle.pv_session.proofs.letters.account_of.Goals as goal

-- ten digits are those of an account
pub returns-then-are_digits-clause-value : goal.returns-then-are_digits-clause-value
returns-then-are_digits-clause-value c =
    account_of_ten c.args.text.now c.of_digits.result c.if-text-eq-ACCOUNT_DIGITS.true (sym c.are_digits.ensures ∙ c.if-are_digits.true)
    c.of_digits.ensures.only
