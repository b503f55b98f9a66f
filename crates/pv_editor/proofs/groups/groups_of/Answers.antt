use Rattle.std.proofs.Common.{◌≤◌, ℕ, List, length, subst, sym, arith}
use Rattle.std.specs.List.Sorted.{IsPermutation}
use Rattle.std.proofs.lemmas.List.Sorted.{length_permutation}
use Rattle.pv_account.specs.declared.groups.TheConstants.{ACCOUNT_GROUPS}
use Rattle.pv_editor.specs.Groups.{IsGroupsText}
use Rattle.pv_editor.proofs.groups.groups_of.Goals as goal

-- numbers that are groups in some order are not too many
few : (groups text : List ℕ) → (is : IsGroupsText groups text) → length is.numbers ≤ ACCOUNT_GROUPS
few groups text is = omega (arith, length_permutation is.numbers groups is.order, is.allowed.fits)

pub returns-in_err-numbers-clause-only : goal.returns-in_err-numbers-clause-only
returns-in_err-numbers-clause-only c = λ groups is.
    absurd (c.in_err-numbers.ensures.only is.numbers is.are (few groups c.args.text.now is))

pub returns-clause-only : goal.returns-clause-only
returns-clause-only c = λ groups is.
    let same = c.in_ok-numbers.ensures.only is.numbers is.are (few groups c.args.text.now is) in
    c.of_list.ensures.only groups (subst (λ (list : List ℕ). IsPermutation list groups) (sym same) is.order) is.allowed
