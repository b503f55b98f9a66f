use Rattle.std.proofs.Common.{false, Result, Ok}
use Rattle.std.specs.declared.alloc.AllocError.{AllocError}
use Rattle.pv_network.specs.declared.outcome.Outcome.{Outcome}
use Rattle.pv_network.proofs.Answered.{answers_by_line}
use Rattle.pv_network.proofs.Noting.{noted}
use Rattle.pv_network.proofs.Standing.{out_stands}
use Rattle.pv_network.proofs.network.Network.step.Goals as goal

-- the answer of an event that takes no memory
abbrev answer : Outcome → Result Outcome AllocError
answer outcome = Ok outcome

-- what the event did was performed
pub returns-clause-performs : goal.returns-clause-performs
returns-clause-performs c =
    noted (answer c.happen-outcome.result) _ _ false c.args.event.now (rw (← c.self-2.view_is) at c.happen-outcome.ensures.performs)

-- a reply stands on one row
pub returns-clause-replies : goal.returns-clause-replies
returns-clause-replies c =
    answers_by_line c.args.self.now _ c.args.event.now (answer c.happen-outcome.result) (rw (← c.self.view_is) c.self.invariant.1)
    (rw (← c.self-2.view_is) at c.happen-outcome.ensures.performs)

pub returns-then-takes_memory-clause-replies : goal.returns-then-takes_memory-clause-replies
returns-then-takes_memory-clause-replies c =
    answers_by_line c.args.self.now _ c.args.event.now c.try_step.result (rw (← c.self.view_is) c.self.invariant.1)
    c.try_step.ensures.performs

-- it stands for the world that it stood for
pub invariant_of-self : goal.invariant_of-self
invariant_of-self c =
    let stands = c.self-2.invariant.1 in (c.self-2.invariant.0, (stands.0, out_stands _ stands.0 stands.1 false))
