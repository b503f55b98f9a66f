use Rattle.std.proofs.Common.{sym, ◌∙◌}
use Rattle.pv_edits.proofs.base.Base.has_room.Goals as goal

pub returns-then-has_editor : goal.returns-then-has_editor
returns-then-has_editor c = rw (c.in-Put.is, sym c.has_editor.ensures ∙ c.if-has_editor.true) c.frame_fits.ensures

pub returns-else-has_editor : goal.returns-else-has_editor
returns-else-has_editor c = rw (c.in-Put.is, sym c.has_editor.ensures ∙ c.if-has_editor.false) c.if-has_editor.false

pub returns-then-has_editor-2 : goal.returns-then-has_editor-2
returns-then-has_editor-2 c =
    rw (c.in-Account.is, ← c.account.view_is, sym c.has_editor-in-Account.ensures ∙ c.if-has_editor-2.true) c.account_fits.ensures

pub returns-else-has_editor-2 : goal.returns-else-has_editor-2
returns-else-has_editor-2 c = rw (c.in-Account.is, sym c.has_editor-in-Account.ensures ∙ c.if-has_editor-2.false) c.if-has_editor-2.false

pub returns-then-has_editor-3 : goal.returns-then-has_editor-3
returns-then-has_editor-3 c = rw (c.in-Lease.is, sym c.has_editor-in-Lease.ensures ∙ c.if-has_editor-3.true) c.lease_fits.ensures

pub returns-else-has_editor-3 : goal.returns-else-has_editor-3
returns-else-has_editor-3 c = rw (c.in-Lease.is, sym c.has_editor-in-Lease.ensures ∙ c.if-has_editor-3.false) c.if-has_editor-3.false

pub returns-in-Drop : goal.returns-in-Drop
returns-in-Drop c = rw c.in-Drop.is c.has_editor-in-Drop.ensures
