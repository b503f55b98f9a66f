use Rattle.std.proofs.Common.{true, [], None}
use Rattle.pv_network.specs.Step.{Choice}
use Rattle.pv_network.proofs.Noting.{followed}
use Rattle.pv_network.proofs.network.Network.try_happen.Goals as goal

-- nothing is open in the other events
abbrev any : Choice
any = record { kept = true; said = None; keyed = [] }

-- event by event
pub returns-in-Keys-clause-performs : goal.returns-in-Keys-clause-performs
returns-in-Keys-clause-performs c =
    followed _ _ c.keys.result c.keys.ensures.performs (λ outcome is w stands.
    let done = is w stands in (
      record { kept = true; said = None; keyed = done.0 },
      rw (c.in-Keys.is, ← c.bytes.ensures) (done.1, done.2),
      rw c.in-Keys.is done.3,
      rw c.in-Keys.is done.4,
    ))

pub returns-in-Crash-clause-performs : goal.returns-in-Crash-clause-performs
returns-in-Crash-clause-performs c =
    followed _ _ c.crash.result c.crash.ensures.performs (λ outcome is w stands.
    let done = is w stands in
    (any, rw c.in-Crash.is tt, rw c.in-Crash.is done.0, rw c.in-Crash.is done.1))

pub returns-in-Cut-clause-performs : goal.returns-in-Cut-clause-performs
returns-in-Cut-clause-performs c =
    followed _ _ c.cut.result c.cut.ensures.performs (λ outcome is w stands.
    let done = is.2 w stands in (
      record { kept = done.0; said = is.0; keyed = [] },
      rw c.in-Cut.is (done.1, is.1),
      rw c.in-Cut.is done.2,
      rw c.in-Cut.is done.3,
    ))

pub returns-in-Bill-clause-performs : goal.returns-in-Bill-clause-performs
returns-in-Bill-clause-performs c =
    followed _ _ c.bill.result c.bill.ensures (λ outcome is w stands.
    let done = is w stands in
    (any, rw c.in-Bill.is tt, rw c.in-Bill.is done.0, rw c.in-Bill.is done.1))

pub returns-in-Lines-clause-performs : goal.returns-in-Lines-clause-performs
returns-in-Lines-clause-performs c =
    followed _ _ c.lines.result c.lines.ensures (λ outcome is w stands.
    let done = is w stands in
    (any, rw c.in-Lines.is tt, rw c.in-Lines.is done.0, rw c.in-Lines.is done.1))
