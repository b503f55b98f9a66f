use Rattle.std.proofs.Common.{◌≡◌, List, Option, Some, None, set, refl, ap, sym, ◌∙◌, arith}
use Rattle.pv_session.specs.declared.step.Step.TheVariants.{Quiet}
use Rattle.pv_network.specs.Call.{Call}
use Rattle.pv_network.specs.Calls.{call_among}
use Rattle.pv_network.specs.declared.outcome.Outcome.TheVariants as outcomes
use Rattle.pv_network.proofs.AtPorts.{presses_at}
use Rattle.pv_network.proofs.Lists.{read_again}
use Rattle.pv_network.proofs.calls.Calls.take_quietly.Goals as goal

-- the turn of the key is done at the port
pub returns-clause-pressed : goal.returns-clause-pressed
returns-clause-pressed c = λ quiet view moment.
    let ports = c.self.inside.ports.items in
    let call = c.take_quietly.new.self in
    let at : call_among ports c.args.port ≡ Some c.in-Some.call =
    read_again ports c.args.port None c.index_mut.result.now (omega (arith, c.requires, c.self.invariant))
    ∙ sym c.index_mut.ensures.value ∙ c.in-Some.is in
    let free = sym c.is_waiting.ensures ∙ c.if-is_waiting.false in
    let turn = c.take_quietly.ensures.turn quiet view moment in
    rw (← c.self.view_is) (
      turn.0,
      rw (at, free) turn.1,
      presses_at ports (set ports c.args.port (Some call)) outcomes.Quiet c.args.port call Quiet
          (λ before seat is calls. (ap (λ (all : List (Option Call)). record calls { ports = all }) is, refl))
          c.in-Some.call at c.args.key view moment turn.0 free turn.2 turn.3,
    )
