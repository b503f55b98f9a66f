use Rattle.std.proofs.Common.{rules, ◌≡◌, None, Some, sym, ap, subst, ◌∙◌}
use Rattle.pv_edits.specs.Owner.{lot_at}
use Rattle.pv_edits.proofs.Search.{IsSearch, begins, found, goes_on, ends}
use Rattle.pv_edits.proofs.owner.lot_of.Goals as goal

pub loop-next-init : goal.loop-next-init
loop-next-init c = begins c.args.records.now.items c.args.page

-- the root is leased, and no longer one is
pub returns-in-Some-lot_at : goal.returns-in-Some-lot_at
returns-in-Some-lot_at c =
    let records = c.args.records.now.items in
    let root : c.loop-next.next ≡ Some c.in-Some.root = search rules in
    let lot : lot_at records c.in-Some.root ≡ Some c.in-Some-lot_at.lot = search rules in
    sym (found records c.args.page c.within.ensures c.in-Some.root c.in-Some-lot_at.lot
    (subst (IsSearch records c.args.page) root c.loop-next.invariant) lot)

-- it is not
pub loop-next-preserved : goal.loop-next-preserved
loop-next-preserved c =
    let records = c.args.records.now.items in
    let root : c.loop-next.next ≡ Some c.in-Some.root = search rules in
    let none : lot_at records c.in-Some.root ≡ None = search rules in
    subst (IsSearch records c.args.page) (sym c.without_last_digit-next.ensures.value)
    (goes_on records c.args.page c.within.ensures c.in-Some.root c.without_last_digit-next.ensures.within
    (subst (IsSearch records c.args.page) root c.loop-next.invariant) none)

-- no root is left
pub returns : goal.returns
returns c =
    let records = c.args.records.now.items in
    let none : c.loop-next.next ≡ None = search rules in
    sym (ends records c.args.page (subst (IsSearch records c.args.page) none c.loop-next.invariant))
