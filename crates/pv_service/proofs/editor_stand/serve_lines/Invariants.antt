use Rattle.pv_udc.specs.contracts.rules.UdcRulesRules.TheImpl as udc
use Rattle.pv_ports.specs.Ends.{line_of}
use Rattle.pv_service.specs.Sessions.{ServesSession, session_failure, session_lacked_memory}
use Rattle.pv_service.specs.Doors.{door_of}
use Rattle.pv_service.specs.Serving.{HasServedSome}
use Rattle.pv_service.proofs.editor_stand.serve_lines.Given as goal

-- as many editors were served as were counted
abbrev pub invariant-loop : goal.invariant-loop
invariant-loop g l =
    HasServedSome (ServesSession {D = g.row.D.Denot} {F = g.row.D-Failure.Denot} udc.ghosts g.N.Run.limits g.N.Run.opening
    (line_of g.O.Line.Source g.O.Line.Sink)) session_failure session_lacked_memory l.counter l.fn.port.pass
    (door_of g.O.Door.lines g.O.Door.accepted g.O.Door.finished g.O.Door.faults l.fn.door) l.port.pass
    (door_of g.O.Door.lines g.O.Door.accepted g.O.Door.finished g.O.Door.faults l.door) l.memory
