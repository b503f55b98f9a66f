use Rattle.std.proofs.Common.{◌+◌, ◌-◌, ◌<◌, ◌∙◌, sym, ap, arith}
use Rattle.pv_edits.specs.Standing.{BaseState}
use Rattle.pv_edits.specs.Room.{frame_count, has_editor}
use Rattle.pv_edits.proofs.Counting.{below}
use Rattle.pv_edits.proofs.base.Base.frames_after.Goals as goal

-- there is room, so the count is below its limit
pub overflow_add-result : goal.overflow_add-result
overflow_add-result c =
    let records = c.args.self.now.records in
    let few : frame_count records < c.args.self.now.limits.frames =
    below (has_editor records c.in-Put.editor) _ (frame_count records) c.args.self.now.limits.frames (rw c.in-Put.is at c.requires)
    (sym c.has_frame.ensures ∙ c.if-has_frame.false) in
    let below_limit : frame_count c.self.inside.records.items < c.self.inside.limits.frames = rw (← c.self.view_is) at few in
    omega (arith, below_limit, c.self.invariant.frames_counted)

pub returns-then-has_frame : goal.returns-then-has_frame
returns-then-has_frame c =
    rw (c.in-Put.is, sym c.has_frame.ensures ∙ c.if-has_frame.true)
    (c.self.invariant.frames_counted ∙ ap (λ (b : BaseState). frame_count b.records) c.self.view_is)

pub returns-else-has_frame : goal.returns-else-has_frame
returns-else-has_frame c =
    let counted = c.self.invariant.frames_counted ∙ ap (λ (b : BaseState). frame_count b.records) c.self.view_is in
    rw (c.in-Put.is, sym c.has_frame.ensures ∙ c.if-has_frame.false) (ap (λ n. n + 1) counted)

pub returns-then-has_frame-2 : goal.returns-then-has_frame-2
returns-then-has_frame-2 c =
    let counted = c.self.invariant.frames_counted ∙ ap (λ (b : BaseState). frame_count b.records) c.self.view_is in
    rw (c.in-Drop.is, sym c.has_frame-in-Drop.ensures ∙ c.if-has_frame-2.true) (c.saturating_sub.ensures ∙ ap (λ n. n - 1) counted)

pub returns-else-has_frame-2 : goal.returns-else-has_frame-2
returns-else-has_frame-2 c =
    rw (c.in-Drop.is, sym c.has_frame-in-Drop.ensures ∙ c.if-has_frame-2.false)
    (c.self.invariant.frames_counted ∙ ap (λ (b : BaseState). frame_count b.records) c.self.view_is)
