use Rattle.std.proofs.Common.{◌≡◌, false}
use denote.Param.{number}
use Rattle.pv_irc.specs.contracts.rules.IrcRulesRules.TheImpl as irc
use Rattle.pv_irc.specs.declared.record.CentreRecord.{CentreRecord}
use Rattle.pv_live.specs.Pass.{Standing}
use Rattle.pv_session.specs.Seat.{state_of}
use Rattle.pv_ports.specs.Ends.{LineState, line_of, AwaitsKey}
use Rattle.pv_ports.proofs.call.talk.Given as goal

-- the call that was in progress still is, and the line has not ended
abbrev pub invariant-loop : goal.invariant-loop
invariant-loop g l =
    (goal.iterator-loop g).can_next l.iterator' × (goal.iterator-loop g).is_finite l.iterator'
    × (g.L.Source.ended l.line ≡ false)
    × ((start : Standing CentreRecord) (first : LineState)
    → AwaitsKey (irc.ghosts (number g.row.C)) g.N.Run.limits g.N.Run.opening (g.K.Clock.moment l.fn.clock) start first l.fn.pass
    (state_of l.fn.hand.at.seat) l.fn.hand.marks.items l.fn.hand.keys l.fn.hand.outbox (line_of g.L.Source g.L.Sink l.fn.line)
    → AwaitsKey (irc.ghosts (number g.row.C)) g.N.Run.limits g.N.Run.opening (g.K.Clock.moment l.fn.clock) start first l.pass
    (state_of l.hand.at.seat) l.hand.marks.items l.hand.keys l.hand.outbox (line_of g.L.Source g.L.Sink l.line))
