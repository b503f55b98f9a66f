-- What holds of the outcome of an event, and of none if memory ran out.
use Rattle.std.proofs.Common.{Bool, Result, Ok, Err}
use Rattle.std.specs.Prelude.{IfOk}
use Rattle.pv_network.specs.declared.event.Event.{Event}
use Rattle.pv_network.specs.declared.outcome.Outcome.{Outcome}
use Rattle.pv_network.specs.Standing.{State, TakesPlace}
use Rattle.pv_network.specs.Step.{happens}
use Rattle.pv_network.proofs.Standing.{out_stands}

-- what was performed stays so, whether memory ran out or not
pub noted : {E : Type 0} (r : Result Outcome E) (old new : State) (out : Bool) (event : Event)
    → IfOk r (TakesPlace event old new) → IfOk r (TakesPlace event old (record new { is_out = out }))
noted (Ok outcome) old new out event is = λ w stands.
    let done = is w stands in (done.0, done.1, out_stands new (happens w event done.0).0 done.2 out, done.3)
noted (Err e) old new out event is = tt

-- what follows for each outcome follows for the one that there is
pub followed : {E : Type 0} (P Q : Outcome → Type 0) (r : Result Outcome E) → IfOk r P → ((outcome : Outcome) → P outcome → Q outcome)
    → IfOk r Q
followed P Q (Ok outcome) is so = so outcome is
followed P Q (Err e) is so = tt
