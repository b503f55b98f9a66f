use Rattle.std.proofs.Common.{map, lit<}
use denote.Param.{number}
use Rattle.pv_irc.specs.History.{applied_of}
use Rattle.pv_irc.specs.contracts.rules.IrcRulesRules.TheImpl as irc
use Rattle.pv_centres.proofs.Served.{there_quieter}
use Rattle.pv_running.proofs.closing.close_centres.Goals as goal

-- each has as many passes as its node
pub close_centre-requires-after_bounds : goal.close_centre-requires-after_bounds
close_centre-requires-after_bounds g c κs within = (lit< tt, (lit< tt, c.requires.0))

pub close_centre-requires-2-after_bounds : goal.close_centre-requires-2-after_bounds
close_centre-requires-2-after_bounds g c κs within = (lit< tt, (lit< tt, c.requires.1))

pub close_centre-requires-3-after_bounds : goal.close_centre-requires-3-after_bounds
close_centre-requires-3-after_bounds g c κs within = (lit< tt, (lit< tt, c.requires.2))

pub close_centre-requires-4-after_bounds : goal.close_centre-requires-4-after_bounds
close_centre-requires-4-after_bounds g c κs within = (lit< tt, (lit< tt, c.requires.3))

-- if no carrier had met anything in the end, none had before
pub returns-clause-first : goal.returns-clause-first
returns-clause-first g c =
    there_quieter (irc.ghosts (number 0)) g.D.Reports g.N0.Run.limits g.N0.Run.opening applied_of _ _
    (λ quiet. (c.in_ok-second.ensures.quiet (c.in_ok-third.ensures.quiet (c.in_ok-fourth.ensures.quiet quiet).0).0).0)
    (map (λ s. s.port.pass) c.args.first.items) c.args.centres.first c.in_ok-first.first c.in_ok-first.ensures.closed

pub returns-clause-second : goal.returns-clause-second
returns-clause-second g c =
    there_quieter (irc.ghosts (number 1)) g.D.Reports g.N1.Run.limits g.N1.Run.opening applied_of _ _
    (λ quiet. (c.in_ok-third.ensures.quiet (c.in_ok-fourth.ensures.quiet quiet).0).0)
    (map (λ s. s.port.pass) c.args.second.items) c.args.centres.second c.in_ok-second.second c.in_ok-second.ensures.closed

pub returns-clause-third : goal.returns-clause-third
returns-clause-third g c =
    there_quieter (irc.ghosts (number 2)) g.D.Reports g.N2.Run.limits g.N2.Run.opening applied_of _ _
    (λ quiet. (c.in_ok-fourth.ensures.quiet quiet).0)
    (map (λ s. s.port.pass) c.args.third.items) c.args.centres.third c.in_ok-third.third c.in_ok-third.ensures.closed

pub returns-clause-quiet : goal.returns-clause-quiet
returns-clause-quiet g c = λ quiet.
    let fourth = c.in_ok-fourth.ensures.quiet quiet in
    let third = c.in_ok-third.ensures.quiet fourth.0 in
    let second = c.in_ok-second.ensures.quiet third.0 in
    let first = c.in_ok-first.ensures.quiet second.0 in (first.0, first.1, second.1, third.1, fourth.1)
