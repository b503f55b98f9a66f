use denote.Param.{number}
use Rattle.pv_irc.specs.contracts.rules.IrcRulesRules.TheImpl as irc
use Rattle.pv_udc.specs.contracts.rules.UdcRulesRules.TheImpl as udc
use Rattle.pv_service.specs.Rounds.{HasMadeSome, carrier_at}
use Rattle.pv_service.proofs.carrier_stand.make_rounds.Given as goal

-- the rounds that were made go on
abbrev pub invariant-loop : goal.invariant-loop
invariant-loop g l =
    (goal.iterator-loop g).can_next l.iterator' × (goal.iterator-loop g).is_finite l.iterator'
    × HasMadeSome udc.ghosts (irc.ghosts (number g.row.C)) g.L.Link g.U.Run.limits g.N.Run.limits g.U.Run.opening g.N.Run.opening
    g.row.C (carrier_at l.fn.carrier l.fn.down l.fn.up) (carrier_at l.carrier l.down l.up) l.memory
