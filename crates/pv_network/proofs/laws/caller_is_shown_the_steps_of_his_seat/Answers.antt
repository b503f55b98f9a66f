use Rattle.std.proofs.Common.{Some}
use Rattle.pv_network.proofs.Screens.{call_stretch, dial_begins}
use Rattle.pv_network.proofs.laws.caller_is_shown_the_steps_of_his_seat.Goals as goal

-- by induction on the events
pub returns-clause-shown : goal.returns-clause-shown
returns-clause-shown c = λ w centre port call events is are.
    let goes = (call_stretch w centre port (Some call) events is are).1 in
    (goes.steps, goes.after, goes.are, goes.shown)

-- a new call is there
pub returns-clause-begins : goal.returns-clause-begins
returns-clause-begins c = λ w centre port choice is there below. dial_begins w centre port is there below
