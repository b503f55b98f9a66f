use Rattle.std.proofs.Common.{Some, sym, ◌∙◌}
use Rattle.pv_editor.proofs.Refusing.{kept}
use Rattle.pv_editor.proofs.seat.EditorSeat.line.Goals as goal

-- the turn of a line that is answered by a refusal keeps the seat
pub returns-in-Some-clause-refused : goal.returns-in-Some-clause-refused
returns-in-Some-clause-refused c = λ code shown is.
    let base = c.args.base.now in
    c.take.ensures.seat
    ∙ kept c.args.self.now base.records base.places code shown (Some c.in-Some.line) (sym c.take.ensures.step ∙ is)
