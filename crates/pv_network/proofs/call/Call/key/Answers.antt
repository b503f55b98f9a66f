use Rattle.std.proofs.Common.{ap}
use Rattle.pv_edits.specs.Sight.{view_of}
use Rattle.pv_session.specs.Seat.{state_of}
use Rattle.pv_session.specs.State.{CallState}
use Rattle.pv_network.specs.Call.{Call}
use Rattle.pv_network.proofs.KeyTurns.{turn_by_entry}
use Rattle.pv_network.proofs.call.Call.key.Goals as goal

-- the seat's turn is that of an entry
pub returns : goal.returns
returns c =
    let call = c.self.inside in
    let with_seat : CallState → Call = λ seat. record { seat = seat; stored = call.stored } in
    let done = turn_by_entry (state_of call.seat) (state_of c.key.new.self) c.args.byte (view_of c.args.sight.now)
    c.args.moment c.key.result
    c.key.ensures.turn in
    rw (← c.self.view_is) (record {
      turn = (
        done.0,
        done.1,
        ap with_seat done.2.after_is,
        done.2.step_is,
      );
    })
