-- What the runs were named by is what the nodes were opened with.
use Rattle.std.proofs.Common.{[]}
use denote.Param.{number}
use Rattle.pv_irc.specs.contracts.rules.IrcRulesRules.TheImpl as centre_rules
use Rattle.pv_node.specs.Trail.{trail_records}
use Rattle.pv_ports.specs.Ends.{line_of}
use Rattle.pv_centres.specs.Carried.{AreQuiet}
use Rattle.pv_centres.specs.Opening.{IsReady}
use Rattle.pv_centres.specs.Served.{CentreServed}
use Rattle.pv_centres.proofs.Served.{there_as, ready_as}
use Rattle.pv_running.proofs.serving.serve_nodes.Goals as goal

pub serve_named-requires-clause-first : goal.serve_named-requires-clause-first
serve_named-requires-clause-first g c κs within =
    ready_as (λ o. trail_records o.trail.items) [] (λ records o. IsReady (centre_rules.ghosts
    (number 0)) g.D.Reports records c.args.limits o.node)
    c.args.nodes.first c.requires.first

pub serve_named-requires-clause-second : goal.serve_named-requires-clause-second
serve_named-requires-clause-second g c κs within =
    ready_as (λ o. trail_records o.trail.items) [] (λ records o. IsReady (centre_rules.ghosts
    (number 1)) g.D.Reports records c.args.limits o.node)
    c.args.nodes.second c.requires.second

pub serve_named-requires-clause-third : goal.serve_named-requires-clause-third
serve_named-requires-clause-third g c κs within =
    ready_as (λ o. trail_records o.trail.items) [] (λ records o. IsReady (centre_rules.ghosts
    (number 2)) g.D.Reports records c.args.limits o.node)
    c.args.nodes.third c.requires.third

pub serve_named-requires-clause-fourth : goal.serve_named-requires-clause-fourth
serve_named-requires-clause-fourth g c κs within =
    ready_as (λ o. trail_records o.trail.items) [] (λ records o. IsReady (centre_rules.ghosts
    (number 3)) g.D.Reports records c.args.limits o.node)
    c.args.nodes.fourth c.requires.fourth

pub returns-clause-callers : goal.returns-clause-callers
returns-clause-callers g c =
    let served = c.in_ok-closed.ensures.callers in (
      served.0,
      there_as (λ o. trail_records o.trail.items) [] (λ records n. CentreServed (centre_rules.ghosts
          (number 0)) g.D.Reports c.args.limits records
          (g.K.Clock.moment c.args.clock.now) (line_of g.O.Line.Source g.O.Line.Sink) c.args.plan.calls
          (AreQuiet c.in_ok-closed.closed.carriers_met.items)
          served.0.olds.first served.0.news.first served.0.met.first n) c.args.nodes.first _ served.1,
      there_as (λ o. trail_records o.trail.items) [] (λ records n. CentreServed (centre_rules.ghosts
          (number 1)) g.D.Reports c.args.limits records
          (g.K.Clock.moment c.args.clock.now) (line_of g.O.Line.Source g.O.Line.Sink) c.args.plan.calls
          (AreQuiet c.in_ok-closed.closed.carriers_met.items)
          served.0.olds.second served.0.news.second served.0.met.second n) c.args.nodes.second _ served.2,
      there_as (λ o. trail_records o.trail.items) [] (λ records n. CentreServed (centre_rules.ghosts
          (number 2)) g.D.Reports c.args.limits records
          (g.K.Clock.moment c.args.clock.now) (line_of g.O.Line.Source g.O.Line.Sink) c.args.plan.calls
          (AreQuiet c.in_ok-closed.closed.carriers_met.items)
          served.0.olds.third served.0.news.third served.0.met.third n) c.args.nodes.third _ served.3,
      there_as (λ o. trail_records o.trail.items) [] (λ records n. CentreServed (centre_rules.ghosts
          (number 3)) g.D.Reports c.args.limits records
          (g.K.Clock.moment c.args.clock.now) (line_of g.O.Line.Source g.O.Line.Sink) c.args.plan.calls
          (AreQuiet c.in_ok-closed.closed.carriers_met.items)
          served.0.olds.fourth served.0.news.fourth served.0.met.fourth n) c.args.nodes.fourth _ served.4,
    )
