use denote.Param.{number}
use Rattle.pv_irc.specs.contracts.rules.IrcRulesRules.TheImpl as irc
use Rattle.pv_ports.specs.Ends.{line_of}
use Rattle.pv_service.specs.Calls.{ServesCall, call_failure, call_lacked_memory}
use Rattle.pv_service.specs.Doors.{door_of}
use Rattle.pv_service.specs.Serving.{HasServedSome}
use Rattle.pv_service.proofs.caller_stand.serve_lines.Given as goal

-- as many callers were served as were counted
abbrev pub invariant-loop : goal.invariant-loop
invariant-loop g l =
    HasServedSome (ServesCall {D = g.row.D.Denot} {F = g.row.D-Failure.Denot} (irc.ghosts (number g.row.C)) g.N.Run.limits g.N.Run.opening
    (g.K.Clock.moment l.fn.clock) (line_of g.O.Line.Source g.O.Line.Sink)) call_failure call_lacked_memory l.counter l.fn.port.pass
    (door_of g.O.Door.lines g.O.Door.accepted g.O.Door.finished g.O.Door.faults l.fn.door) l.port.pass
    (door_of g.O.Door.lines g.O.Door.accepted g.O.Door.finished g.O.Door.faults l.door) l.memory
