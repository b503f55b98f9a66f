use Rattle.std.proofs.Common.{arith}
use Rattle.pv_page.proofs.Decimals.{digits_value-page, page_without_error}
use Rattle.pv_page.proofs.page_no.PageNo.of_digits.Goals as goal

-- a page's text has no error
pub returns-in-Some-clause-only : goal.returns-in-Some-clause-only
returns-in-Some-clause-only c = λ n is text. grind (arith, page_without_error c.args.digits.now n is text)

-- and its digits write the page
pub returns-in-None-clause-only : goal.returns-in-None-clause-only
returns-in-None-clause-only c = λ n is text. grind (arith, digits_value-page n is)
