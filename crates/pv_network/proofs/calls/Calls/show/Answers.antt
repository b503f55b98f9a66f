use Rattle.std.proofs.Common.{◌≡◌, Some, None, sym, ◌∙◌, arith}
use Rattle.pv_network.specs.Calls.{call_among}
use Rattle.pv_network.proofs.AtPorts.{shows_at}
use Rattle.pv_network.proofs.Lists.{read_again}
use Rattle.pv_network.proofs.calls.Calls.show.Goals as goal

-- the turn of the reply is done at the port
pub returns : goal.returns
returns c =
    let ports = c.self.inside.ports.items in
    let at : call_among ports c.args.port ≡ Some c.in-Some.call =
    read_again ports c.args.port None c.index_mut.result.now (omega (arith, c.requires, c.self.invariant))
    ∙ sym c.index_mut.ensures.value ∙ c.in-Some.is in
    rw (← c.self.view_is)
    (shows_at ports c.answer.new.self c.answer.result c.args.port c.show-step.new.self c.show-step.result c.answer.ensures
    c.in-Some.call at c.in-Some-stored.reply (sym c.stored.ensures ∙ c.in-Some-stored.is) c.show-step.ensures.after
    c.show-step.ensures.step)
