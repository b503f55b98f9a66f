use Rattle.std.proofs.Common.{◌≡◌, Some, None, sym, ◌∙◌, arith}
use Rattle.pv_network.specs.Calls.{call_among}
use Rattle.pv_network.proofs.AtPorts.{presses_at}
use Rattle.pv_network.proofs.Lists.{read_again}
use Rattle.pv_network.proofs.calls.Calls.press.Goals as goal

-- the turn of the key is done at the port
pub returns : goal.returns
returns c =
    let ports = c.self.inside.ports.items in
    let at : call_among ports c.args.port ≡ Some c.in-Some.call =
    read_again ports c.args.port None c.index_mut.result.now (omega (arith, c.requires.port, c.self.invariant))
    ∙ sym c.index_mut.ensures.value ∙ c.in-Some.is in
    let free = sym c.is_waiting.ensures ∙ c.if-is_waiting.false in
    let turn = c.key-step.ensures.turn in
    rw (← c.self.view_is) (record {
      pressed = (
        turn.0,
        rw (at, free) turn.1,
        presses_at ports c.answer.new.self c.answer.result c.args.port c.key-step.new.self c.key-step.result c.answer.ensures
            c.in-Some.call at c.args.key _ c.args.moment turn.0 free turn.2 turn.3,
      );
    })
