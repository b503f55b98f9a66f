use Rattle.std.proofs.Common.{◌+◌, ◌<◌, ◌∙◌, sym, ap, arith}
use Rattle.pv_edits.specs.Standing.{BaseState}
use Rattle.pv_edits.specs.Room.{lease_count, has_editor}
use Rattle.pv_edits.specs.declared.room.TheConstants.{MAX_LEASES}
use Rattle.pv_edits.proofs.Counting.{below}
use Rattle.pv_edits.proofs.base.Base.leases_after.Goals as goal

-- there is room, so the count is below its limit
pub overflow_add-result : goal.overflow_add-result
overflow_add-result c =
    let records = c.args.self.now.records in
    let few : lease_count records < MAX_LEASES =
    below (has_editor records c.in-Lease.editor) _ (lease_count records) MAX_LEASES (rw c.in-Lease.is at c.requires) (sym
    c.has_lease.ensures ∙ c.if-has_lease.false) in
    let below_limit : lease_count c.self.inside.records.items < MAX_LEASES = rw (← c.self.view_is) at few in
    omega (arith, below_limit, c.self.invariant.leases_counted)

pub returns-then-has_lease : goal.returns-then-has_lease
returns-then-has_lease c =
    rw (c.in-Lease.is, sym c.has_lease.ensures ∙ c.if-has_lease.true)
    (c.self.invariant.leases_counted ∙ ap (λ (b : BaseState). lease_count b.records) c.self.view_is)

pub returns-else-has_lease : goal.returns-else-has_lease
returns-else-has_lease c =
    let counted = c.self.invariant.leases_counted ∙ ap (λ (b : BaseState). lease_count b.records) c.self.view_is in
    rw (c.in-Lease.is, sym c.has_lease.ensures ∙ c.if-has_lease.false) (ap (λ n. n + 1) counted)
