use Rattle.pv_edits.specs.Sight.{view_of}
use Rattle.pv_session.specs.Seat.{state_of}
use Rattle.pv_session.specs.Turns.{is_spent}
use Rattle.pv_session.proofs.Cells.{listens_shown}
use Rattle.pv_session.proofs.seat.Seat.key.Goals as goal

-- what comes of a byte can be shown
pub returns-in-Listening-clause-cells : goal.returns-in-Listening-clause-cells
returns-in-Listening-clause-cells c =
    let call = state_of c.args.self.now in
    listens_shown (is_spent call) call (state_of c.listen-step.new.self) c.args.byte (view_of c.args.sight.now) c.args.moment
    c.listen-step.result c.listen-step.ensures
