use Rattle.pv_network.specs.Calls.{call_in, show_at}
use Rattle.pv_network.proofs.AtPorts.{comes_of}
use Rattle.pv_network.proofs.centre.Centre.show.Goals as goal

-- what is done at the ports is done at the centre
pub returns : goal.returns
returns c = rw (← c.self.view_is)
    (comes_of (record { node = c.self.inside.node; ports = c.self.inside.calls }) c.show.new.self c.show.result
    (λ calls. show_at calls c.args.port (call_in calls c.args.port)) c.show.ensures)
