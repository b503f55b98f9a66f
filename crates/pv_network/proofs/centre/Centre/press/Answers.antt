use Rattle.pv_edits.specs.Sight.{view_of}
use Rattle.pv_network.specs.Calls.{call_in, press_at}
use Rattle.pv_network.proofs.AtPorts.{comes_of}
use Rattle.pv_network.proofs.centre.Centre.press.Goals as goal

-- the caller is shown what the node has for him
pub returns : goal.returns
returns c =
    let pressed = c.press.ensures.pressed in
    let shown = rw (c.state.ensures, c.account-account.ensures) at c.sight.ensures in
    rw (← c.self.view_is) (record {
      entry = pressed.0;
      says = pressed.1;
      comes = rw shown at (comes_of (record { node = c.self.inside.node; ports = c.self.inside.calls }) c.press.new.self c.press.result
          (λ calls. press_at calls c.args.port c.args.key (view_of c.sight.result) c.args.moment pressed.0 (call_in calls c.args.port))
          pressed.2);
    })
