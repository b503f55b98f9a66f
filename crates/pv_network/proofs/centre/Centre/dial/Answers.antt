use Rattle.pv_network.specs.Calls.{call_in, dial_at}
use Rattle.pv_network.proofs.AtPorts.{comes_of}
use Rattle.pv_network.proofs.centre.Centre.dial.Goals as goal

-- what is done at the ports is done at the centre
pub returns : goal.returns
returns c = rw (← c.self.view_is)
    (comes_of (record { node = c.self.inside.node; ports = c.self.inside.calls }) c.dial.new.self c.dial.result
    (λ calls. dial_at calls c.args.port (call_in calls c.args.port)) c.dial.ensures)
