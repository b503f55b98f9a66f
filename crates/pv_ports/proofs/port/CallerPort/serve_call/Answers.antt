use Rattle.pv_session.specs.Seat.{state_of}
use Rattle.pv_ports.specs.Ends.{line_of}
use Rattle.pv_ports.proofs.Talking.{dialled}
use Rattle.pv_ports.proofs.port.CallerPort.serve_call.Goals as goal

pub returns : goal.returns
returns g c =
    rw (← c.self.view_is) (c.talk.ensures c.self.inside.pass (line_of g.L.Source g.L.Sink c.args.line.now)
    (dialled _ _ _ _ c.self.inside.pass (line_of g.L.Source g.L.Sink c.args.line.now) (state_of c.dial.new.hand.at.seat) _ _ _
    c.dial.ensures.seat c.dial.ensures.own c.dial.ensures.marks c.dial.ensures.keys c.dial.ensures.outbox))
