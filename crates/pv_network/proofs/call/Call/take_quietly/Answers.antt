use Rattle.std.proofs.Common.{ap}
use Rattle.pv_session.specs.declared.step.Step.TheVariants.{Quiet}
use Rattle.pv_session.specs.Seat.{state_of}
use Rattle.pv_session.specs.State.{CallState}
use Rattle.pv_network.specs.Call.{Call}
use Rattle.pv_network.proofs.KeyTurns.{turn_by_entry}
use Rattle.pv_network.proofs.call.Call.take_quietly.Goals as goal

-- the seat's turn is that of no entry, whatever the caller may see
pub returns-clause-turn : goal.returns-clause-turn
returns-clause-turn c = λ quiet view moment.
    let call = c.self.inside in
    let with_seat : CallState → Call = λ seat. record { seat = seat; stored = call.stored } in
    let done = turn_by_entry (state_of call.seat) (state_of c.take_quietly.new.self) c.args.byte view moment Quiet
    (c.take_quietly.ensures.turn quiet view moment) in
    rw (← c.self.view_is) (done.0, done.1, ap with_seat done.2.after_is, done.2.step_is)
