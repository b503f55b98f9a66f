use Rattle.std.proofs.Common.{◌≡◌, List, ℕ, [], ◌∷◌, Some, sym, ◌∙◌, rules}
use Rattle.pv_office.specs.Options.{AskForStatement}
use Rattle.pv_office.proofs.Words.{parts_same, pair_same}
use Rattle.pv_office.proofs.options.options_of.Goals as goal

-- the words ask for a statement
pub returns-in-Some-Some-clause-none : goal.returns-in-Some-Some-clause-none
returns-in-Some-Some-clause-none c =
    let ask : AskForStatement (c.args.command.now ∷ c.args.folder.now ∷ c.args.account.now ∷ c.args.month.now ∷ [])
    c.args.folder.now c.in-Some-Some.account c.in-Some-Some.year c.in-Some-Some.month = search rules in
    (λ no. absurd cc, λ none. absurd (none c.args.folder.now c.in-Some-Some.account c.in-Some-Some.year c.in-Some-Some.month ask))

-- and for no other
pub returns-in-Some-Some-clause-only : goal.returns-in-Some-Some-clause-only
returns-in-Some-Some-clause-only c = λ folder account year month ask.
    let same = parts_same _ _ _ _ _ _ _ _ ask.asked in
    let one = c.in-Some-Some.ensures.only account ask.account_is (c.as_bytes.ensures.value ∙ same.third) in
    let two = c.in-Some-Some.ensures'.only year month ask.month_is (c.as_bytes-2.ensures.value ∙ same.fourth) in
    let both = pair_same (c.in-Some-Some.year, c.in-Some-Some.month) (year, month) two in
    record { folder_is = same.second; account_is = cc; year_is = both.0; month_is = both.1 }
