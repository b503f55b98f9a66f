use Rattle.std.proofs.Common.{◌≡◌, List, Option, ap, sym, ◌∙◌}
use Rattle.pv_fields.specs.Refusals.{first_of}
use Rattle.pv_edits.specs.declared.record.Record.{Record}
use Rattle.pv_editor.specs.declared.line.EditLine.{EditLine}
use Rattle.pv_editor.specs.declared.replies.UdcReplyView.{UdcReplyView}
use Rattle.pv_editor.specs.declared.seat.EditorSeat.{EditorSeat}
use Rattle.pv_editor.specs.declared.step.EditStep.{EditStep}
use Rattle.pv_editor.specs.declared.step.EditStep.TheVariants as steps
use Rattle.pv_editor.specs.Say.{refusals, seat_after, step_of}
use Rattle.pv_editor.proofs.Turns.{turn-refused, turn-taken}
use Rattle.pv_editor.proofs.seat.EditorSeat.take.Goals as goal

-- the reason why the line is refused, if it is
found : (seat : EditorSeat) (records : List Record) (line : EditLine) (refusal first : Option UdcReplyView)
    → refusal ≡ first_of (refusals seat records line) → refusal ≡ first → first_of (refusals seat records line) ≡ first
found seat records line refusal first is same = sym is ∙ same

-- a refused line leaves the seat, and is answered by the refusal
pub returns-in-Some-clause-seat : goal.returns-in-Some-clause-seat
returns-in-Some-clause-seat c =
    let records = c.args.base.now.records in
    let places = c.args.base.now.places in
    let seat = c.args.self.now in
    let line = c.args.line.now in
    let refusal = found seat records line _ _ c.refusal.ensures c.in-Some.is in
    let turn = turn-refused _ seat (seat_after seat records line, step_of seat records places line) _ refusal in
    sym (ap (λ (t : EditorSeat × EditStep). t.0) turn)

pub returns-in-Some-clause-step : goal.returns-in-Some-clause-step
returns-in-Some-clause-step c =
    let records = c.args.base.now.records in
    let places = c.args.base.now.places in
    let seat = c.args.self.now in
    let line = c.args.line.now in
    let refusal = found seat records line _ _ c.refusal.ensures c.in-Some.is in
    let turn = turn-refused _ seat (seat_after seat records line, step_of seat records places line) _ refusal in
    ap steps.Say c.reply_text.ensures ∙ sym (ap (λ (t : EditorSeat × EditStep). t.1) turn)

-- a line that is not refused changes the seat, and has its step
pub returns-in-None-clause-seat : goal.returns-in-None-clause-seat
returns-in-None-clause-seat c =
    let records = c.args.base.now.records in
    let places = c.args.base.now.places in
    let seat = c.args.self.now in
    let line = c.args.line.now in
    let none = found seat records line _ _ c.refusal.ensures c.in-None.is in
    let turn = turn-taken _ seat (seat_after seat records line, step_of seat records places line) none in
    c.change.ensures ∙ sym (ap (λ (t : EditorSeat × EditStep). t.0) turn)

pub returns-in-None-clause-step : goal.returns-in-None-clause-step
returns-in-None-clause-step c =
    let records = c.args.base.now.records in
    let places = c.args.base.now.places in
    let seat = c.args.self.now in
    let line = c.args.line.now in
    let none = found seat records line _ _ c.refusal.ensures c.in-None.is in
    let turn = turn-taken _ seat (seat_after seat records line, step_of seat records places line) none in
    c.step-step.ensures ∙ sym (ap (λ (t : EditorSeat × EditStep). t.1) turn)
