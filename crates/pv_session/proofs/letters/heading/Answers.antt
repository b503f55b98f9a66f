use Rattle.std.proofs.Common.{rules, sym, subst}
use Rattle.pv_screen.specs.Grid.{IsRow}
use Rattle.pv_session.proofs.LetterTexts.{heading_is_row}
use Rattle.pv_session.proofs.letters.heading.Goals as goal

pub returns-clause-value : goal.returns-clause-value
returns-clause-value c = search rules

-- the heading is a row
pub returns-clause-row : goal.returns-clause-row
returns-clause-row c = subst IsRow (sym (returns-clause-value c)) (heading_is_row c.args.sender c.digits.ensures.within)
