use Rattle.pv_ports.specs.Ends.{line_of}
use Rattle.pv_ports.proofs.Sessions.{begun}
use Rattle.pv_ports.proofs.editor_port.EditorPort.serve_editor.Goals as goal

pub returns : goal.returns
returns g c =
    rw (← c.self.view_is) (c.converse.ensures c.self.inside.pass (line_of g.L.Source g.L.Sink c.args.line.now)
    (begun _ _ _ c.self.inside.pass _ _ _ _ _ (line_of g.L.Source g.L.Sink c.args.line.now)
    c.begin.ensures.seat c.begin.ensures.marks c.begin.ensures.kept c.begin.ensures.taken c.begin.ensures.ahead))
