use Rattle.std.proofs.Common.{◌+◌, ◌<◌, ◌∙◌, sym, ap, arith}
use Rattle.pv_edits.specs.Standing.{BaseState}
use Rattle.pv_edits.specs.Room.{account_count, has_editor}
use Rattle.pv_edits.specs.declared.room.TheConstants.{MAX_ACCOUNTS}
use Rattle.pv_edits.proofs.Counting.{below}
use Rattle.pv_edits.proofs.base.Base.accounts_after.Goals as goal

-- there is room, so the count is below its limit
pub overflow_add-result : goal.overflow_add-result
overflow_add-result c =
    let records = c.args.self.now.records in
    let few : account_count records < MAX_ACCOUNTS =
    below (has_editor records c.in-Account.editor) _ (account_count records) MAX_ACCOUNTS (rw (c.in-Account.is, ← c.account.view_is)
    at c.requires) (sym c.has_account.ensures ∙ c.if-has_account.false) in
    let below_limit : account_count c.self.inside.records.items < MAX_ACCOUNTS = rw (← c.self.view_is) at few in
    omega (arith, below_limit, c.self.invariant.accounts_counted)

pub returns-then-has_account : goal.returns-then-has_account
returns-then-has_account c =
    rw (c.in-Account.is, ← c.account.view_is, sym c.has_account.ensures ∙ c.if-has_account.true)
    (c.self.invariant.accounts_counted ∙ ap (λ (b : BaseState). account_count b.records) c.self.view_is)

pub returns-else-has_account : goal.returns-else-has_account
returns-else-has_account c =
    let counted = c.self.invariant.accounts_counted ∙ ap (λ (b : BaseState). account_count b.records) c.self.view_is in
    rw (c.in-Account.is, ← c.account.view_is, sym c.has_account.ensures ∙ c.if-has_account.false) (ap (λ n. n + 1) counted)
