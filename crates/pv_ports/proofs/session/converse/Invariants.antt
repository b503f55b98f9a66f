use Rattle.std.proofs.Common.{◌≡◌, false}
use Rattle.pv_edits.specs.declared.record.Record.{Record}
use Rattle.pv_live.specs.Pass.{Standing}
use Rattle.pv_udc.specs.contracts.rules.UdcRulesRules.TheImpl as udc
use Rattle.pv_ports.specs.Ends.{LineState, line_of}
use Rattle.pv_ports.specs.SessionEnds.{InSession}
use Rattle.pv_ports.proofs.session.converse.Given as goal

-- the session that was in progress still is, and the line has not ended
abbrev pub invariant-loop : goal.invariant-loop
invariant-loop g l =
    (goal.iterator-loop g).can_next l.iterator' × (goal.iterator-loop g).is_finite l.iterator'
    × (g.L.Source.ended l.line ≡ false)
    × ((start : Standing Record) (first : LineState)
    → InSession udc.ghosts g.N.Run.limits g.N.Run.opening start first l.fn.pass l.fn.desk.seat
    l.fn.desk.marks.items l.fn.desk.kept.items l.fn.desk.taken l.fn.desk.ahead (line_of g.L.Source g.L.Sink l.fn.line)
    → InSession udc.ghosts g.N.Run.limits g.N.Run.opening start first l.pass l.desk.seat
    l.desk.marks.items l.desk.kept.items l.desk.taken l.desk.ahead (line_of g.L.Source g.L.Sink l.line))
