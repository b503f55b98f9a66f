use Rattle.pv_edits.specs.Sight.{sight_of}
use Rattle.pv_irc.specs.History.{letters_for}
use Rattle.pv_network.specs.Calls.{call_among, call_in, given_account, press_at}
use Rattle.pv_network.specs.declared.outcome.Outcome.TheVariants as outcomes
use Rattle.pv_network.proofs.AtPorts.{comes_of}
use Rattle.pv_network.proofs.centre.Centre.take_quietly.Goals as goal

-- nothing comes of the key, whatever the node has for the caller
pub returns-clause-pressed : goal.returns-clause-pressed
returns-clause-pressed c = λ quiet moment.
    let state = c.self.inside.node.state in
    let view = sight_of state.edits (letters_for state) state.centre (given_account (call_among c.self.inside.calls c.args.port)) in
    let pressed = c.take_quietly.ensures.pressed quiet view moment in
    rw (← c.self.view_is) (record {
      entry = pressed.0;
      says = pressed.1;
      comes = comes_of (record { node = c.self.inside.node; ports = c.self.inside.calls }) c.take_quietly.new.self outcomes.Quiet
          (λ calls. press_at calls c.args.port c.args.key view moment pressed.0 (call_in calls c.args.port)) pressed.2;
    })
