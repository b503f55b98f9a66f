-- Each node was served by the stands that it was opened with, and closed with their passes.
use Rattle.std.proofs.Common.{map}
use denote.Param.{number}
use Rattle.pv_irc.specs.History.{applied_of}
use Rattle.pv_irc.specs.contracts.rules.IrcRulesRules.TheImpl as centre_rules
use Rattle.pv_udc.specs.contracts.rules.UdcRulesRules.TheImpl as update_rules
use Rattle.pv_ports.specs.Ends.{line_of}
use Rattle.pv_service.specs.Calls.{HasServedCalls, ServesCall, call_failure, call_lacked_memory}
use Rattle.pv_service.specs.Doors.{door_of}
use Rattle.pv_service.specs.Sessions.{HasServedSessions, ServesSession, session_failure, session_lacked_memory}
use Rattle.pv_centres.specs.Carried.{AreQuiet, taken_count}
use Rattle.pv_centres.specs.Opening.{port_counts}
use Rattle.pv_centres.proofs.Served.{none_stands, fresh_length, fresh_row_serves, same_lengths, node_served, centre_served, served_rows, doors_served, node_doors, rows_doors}
use Rattle.pv_running.proofs.serving.serve_named.Goals as goal

pub run_network-requires-clause-first_there : goal.run_network-requires-clause-first_there
run_network-requires-clause-first_there g c κs within =
    none_stands c.args.plan.ports c.args.nodes.first c.in_ok-network.network.centres.first c.in_ok-network.network.ports.first.items
    c.in_ok-network.ensures.first_there c.in_ok-network.ensures.first.counted

pub run_network-requires-clause-second_there : goal.run_network-requires-clause-second_there
run_network-requires-clause-second_there g c κs within =
    none_stands c.args.plan.ports c.args.nodes.second c.in_ok-network.network.centres.second c.in_ok-network.network.ports.second.items
    c.in_ok-network.ensures.second_there c.in_ok-network.ensures.second.counted

pub run_network-requires-clause-third_there : goal.run_network-requires-clause-third_there
run_network-requires-clause-third_there g c κs within =
    none_stands c.args.plan.ports c.args.nodes.third c.in_ok-network.network.centres.third c.in_ok-network.network.ports.third.items
    c.in_ok-network.ensures.third_there c.in_ok-network.ensures.third.counted

pub run_network-requires-clause-fourth_there : goal.run_network-requires-clause-fourth_there
run_network-requires-clause-fourth_there g c κs within =
    none_stands c.args.plan.ports c.args.nodes.fourth c.in_ok-network.network.centres.fourth c.in_ok-network.network.ports.fourth.items
    c.in_ok-network.ensures.fourth_there c.in_ok-network.ensures.fourth.counted

pub returns-clause-update : goal.returns-clause-update
returns-clause-update g c =
    node_served g.E.Door.accepted (λ s. s.port.pass) (λ s. s.door.value) (λ s. s.calls) (λ s. s.report.value)
    (door_of g.E.Door.lines g.E.Door.accepted g.E.Door.finished g.E.Door.faults)
    (HasServedSessions update_rules.ghosts g.U.Run.limits g.U.Run.opening (line_of g.E.Line.Source g.E.Line.Sink))
    update_rules.ghosts g.D.Reports g.U.Run.limits taken_count (AreQuiet c.in_ok-closed.closed.carriers_met.items) g.U.Run.opening
    c.args.plan.calls
    c.in_ok-network.network.ports.editors.items c.run_network.new.network.ports.editors.items _ c.args.editors.items
    c.in_ok-closed.closed.editors.items c.in_ok-closed.closed.editors_met.items c.in_ok-closed.closed.nodes.update
    c.in_ok-network.ensures.editors_doors c.in_ok-closed.ensures.editors c.in_ok-closed.ensures.editors_met
    c.in_ok-network.ensures.editors c.run_network.ensures.editors c.in_ok-closed.ensures.update

pub returns-clause-editors_doors : goal.returns-clause-editors_doors
returns-clause-editors_doors g c =
    node_doors (ServesSession update_rules.ghosts g.U.Run.limits g.U.Run.opening (line_of g.E.Line.Source g.E.Line.Sink))
    session_failure session_lacked_memory c.args.plan.calls update_rules.ghosts g.D.Reports g.U.Run.limits _ _ g.U.Run.opening
    _ _ _ c.in_ok-closed.closed.nodes.update (returns-clause-update g c)

pub returns-clause-callers : goal.returns-clause-callers
returns-clause-callers g c = (
  served_rows (door_of g.O.Door.lines g.O.Door.accepted g.O.Door.finished g.O.Door.faults) (port_counts c.args.plan.ports c.args.nodes)
      c.args.callers.items c.in_ok-closed.closed.callers.items c.in_ok-closed.closed.callers_met.items
      (record {
        first = map (λ s. s.door.value) c.in_ok-network.network.ports.first.items;
        second = map
            (λ s. s.door.value) c.in_ok-network.network.ports.second.items;
        third = map
            (λ s. s.door.value) c.in_ok-network.network.ports.third.items;
        fourth = map
            (λ s. s.door.value) c.in_ok-network.network.ports.fourth.items;
      })
      (record {
        first = map (λ s. s.door.value) c.run_network.new.network.ports.first.items;
        second = map
            (λ s. s.door.value) c.run_network.new.network.ports.second.items;
        third = map
            (λ s. s.door.value) c.run_network.new.network.ports.third.items;
        fourth = map
            (λ s. s.door.value) c.run_network.new.network.ports.fourth.items;
      })
      (record {
        first = map (λ s. s.report.value) c.run_network.new.network.ports.first.items;
        second = map
            (λ s. s.report.value) c.run_network.new.network.ports.second.items;
        third = map
            (λ s. s.report.value) c.run_network.new.network.ports.third.items;
        fourth = map
            (λ s. s.report.value) c.run_network.new.network.ports.fourth.items;
      })
      (same_lengths _ _ (fresh_length c.in_ok-network.ensures.first) (fresh_length c.in_ok-network.ensures.second)
      (fresh_length c.in_ok-network.ensures.third) (fresh_length c.in_ok-network.ensures.fourth))
      c.in_ok-network.ensures.callers c.in_ok-closed.ensures.callers c.in_ok-closed.ensures.callers_met,
  centre_served g.O.Door.accepted (λ s. s.port.pass) (λ s. s.door.value) (λ s. s.calls) (λ s. s.report.value)
      (door_of g.O.Door.lines g.O.Door.accepted g.O.Door.finished g.O.Door.faults)
      (HasServedCalls (centre_rules.ghosts (number 0)) g.N0.Run.limits g.N0.Run.opening (g.K.Clock.moment c.args.clock.now)
      (line_of g.O.Line.Source g.O.Line.Sink)) (centre_rules.ghosts
      (number 0)) g.D.Reports g.N0.Run.limits applied_of (AreQuiet c.in_ok-closed.closed.carriers_met.items)
      g.N0.Run.opening c.args.plan.calls
      c.in_ok-network.network.ports.first.items c.run_network.new.network.ports.first.items _ c.args.nodes.first
      c.in_ok-network.network.centres.first c.run_network.new.network.centres.first c.in_ok-closed.closed.nodes.first
      c.in_ok-network.ensures.first_there c.run_network.ensures.first_live c.in_ok-network.ensures.first c.run_network.ensures.first
      c.in_ok-closed.ensures.first,
  centre_served g.O.Door.accepted (λ s. s.port.pass) (λ s. s.door.value) (λ s. s.calls) (λ s. s.report.value)
      (door_of g.O.Door.lines g.O.Door.accepted g.O.Door.finished g.O.Door.faults)
      (HasServedCalls (centre_rules.ghosts (number 1)) g.N1.Run.limits g.N1.Run.opening (g.K.Clock.moment c.args.clock.now)
      (line_of g.O.Line.Source g.O.Line.Sink)) (centre_rules.ghosts
      (number 1)) g.D.Reports g.N1.Run.limits applied_of (AreQuiet c.in_ok-closed.closed.carriers_met.items)
      g.N1.Run.opening c.args.plan.calls
      c.in_ok-network.network.ports.second.items c.run_network.new.network.ports.second.items _ c.args.nodes.second
      c.in_ok-network.network.centres.second c.run_network.new.network.centres.second c.in_ok-closed.closed.nodes.second
      c.in_ok-network.ensures.second_there c.run_network.ensures.second_live c.in_ok-network.ensures.second
      c.run_network.ensures.second c.in_ok-closed.ensures.second,
  centre_served g.O.Door.accepted (λ s. s.port.pass) (λ s. s.door.value) (λ s. s.calls) (λ s. s.report.value)
      (door_of g.O.Door.lines g.O.Door.accepted g.O.Door.finished g.O.Door.faults)
      (HasServedCalls (centre_rules.ghosts (number 2)) g.N2.Run.limits g.N2.Run.opening (g.K.Clock.moment c.args.clock.now)
      (line_of g.O.Line.Source g.O.Line.Sink)) (centre_rules.ghosts
      (number 2)) g.D.Reports g.N2.Run.limits applied_of (AreQuiet c.in_ok-closed.closed.carriers_met.items)
      g.N2.Run.opening c.args.plan.calls
      c.in_ok-network.network.ports.third.items c.run_network.new.network.ports.third.items _ c.args.nodes.third
      c.in_ok-network.network.centres.third c.run_network.new.network.centres.third c.in_ok-closed.closed.nodes.third
      c.in_ok-network.ensures.third_there c.run_network.ensures.third_live c.in_ok-network.ensures.third c.run_network.ensures.third
      c.in_ok-closed.ensures.third,
  centre_served g.O.Door.accepted (λ s. s.port.pass) (λ s. s.door.value) (λ s. s.calls) (λ s. s.report.value)
      (door_of g.O.Door.lines g.O.Door.accepted g.O.Door.finished g.O.Door.faults)
      (HasServedCalls (centre_rules.ghosts (number 3)) g.N3.Run.limits g.N3.Run.opening (g.K.Clock.moment c.args.clock.now)
      (line_of g.O.Line.Source g.O.Line.Sink)) (centre_rules.ghosts
      (number 3)) g.D.Reports g.N3.Run.limits applied_of (AreQuiet c.in_ok-closed.closed.carriers_met.items)
      g.N3.Run.opening c.args.plan.calls
      c.in_ok-network.network.ports.fourth.items c.run_network.new.network.ports.fourth.items _ c.args.nodes.fourth
      c.in_ok-network.network.centres.fourth c.run_network.new.network.centres.fourth c.in_ok-closed.closed.nodes.fourth
      c.in_ok-network.ensures.fourth_there c.run_network.ensures.fourth_live c.in_ok-network.ensures.fourth
      c.run_network.ensures.fourth c.in_ok-closed.ensures.fourth,
)

pub returns-clause-callers_doors : goal.returns-clause-callers_doors
unfolding returns-clause-callers
returns-clause-callers_doors g c =
    rows_doors c.args.plan.calls _ _ _ _ ((returns-clause-callers g c).0)
    (doors_served (ServesCall (centre_rules.ghosts (number 0)) g.N0.Run.limits g.N0.Run.opening (g.K.Clock.moment c.args.clock.now)
    (line_of g.O.Line.Source g.O.Line.Sink)) call_failure call_lacked_memory c.args.plan.calls _ _ _ _
    (fresh_row_serves g.O.Door.accepted (λ s. s.port.pass) (λ s. s.door.value) (λ s. s.calls) (λ s. s.report.value)
    (door_of g.O.Door.lines g.O.Door.accepted g.O.Door.finished g.O.Door.faults)
    (HasServedCalls (centre_rules.ghosts (number 0)) g.N0.Run.limits g.N0.Run.opening (g.K.Clock.moment c.args.clock.now)
    (line_of g.O.Line.Source g.O.Line.Sink)) _ c.args.plan.calls c.in_ok-network.network.ports.first.items
    c.run_network.new.network.ports.first.items c.in_ok-network.ensures.first c.run_network.ensures.first))
    (doors_served (ServesCall (centre_rules.ghosts (number 1)) g.N1.Run.limits g.N1.Run.opening (g.K.Clock.moment c.args.clock.now)
    (line_of g.O.Line.Source g.O.Line.Sink)) call_failure call_lacked_memory c.args.plan.calls _ _ _ _
    (fresh_row_serves g.O.Door.accepted (λ s. s.port.pass) (λ s. s.door.value) (λ s. s.calls) (λ s. s.report.value)
    (door_of g.O.Door.lines g.O.Door.accepted g.O.Door.finished g.O.Door.faults)
    (HasServedCalls (centre_rules.ghosts (number 1)) g.N1.Run.limits g.N1.Run.opening (g.K.Clock.moment c.args.clock.now)
    (line_of g.O.Line.Source g.O.Line.Sink)) _ c.args.plan.calls c.in_ok-network.network.ports.second.items
    c.run_network.new.network.ports.second.items c.in_ok-network.ensures.second c.run_network.ensures.second))
    (doors_served (ServesCall (centre_rules.ghosts (number 2)) g.N2.Run.limits g.N2.Run.opening (g.K.Clock.moment c.args.clock.now)
    (line_of g.O.Line.Source g.O.Line.Sink)) call_failure call_lacked_memory c.args.plan.calls _ _ _ _
    (fresh_row_serves g.O.Door.accepted (λ s. s.port.pass) (λ s. s.door.value) (λ s. s.calls) (λ s. s.report.value)
    (door_of g.O.Door.lines g.O.Door.accepted g.O.Door.finished g.O.Door.faults)
    (HasServedCalls (centre_rules.ghosts (number 2)) g.N2.Run.limits g.N2.Run.opening (g.K.Clock.moment c.args.clock.now)
    (line_of g.O.Line.Source g.O.Line.Sink)) _ c.args.plan.calls c.in_ok-network.network.ports.third.items
    c.run_network.new.network.ports.third.items c.in_ok-network.ensures.third c.run_network.ensures.third))
    (doors_served (ServesCall (centre_rules.ghosts (number 3)) g.N3.Run.limits g.N3.Run.opening (g.K.Clock.moment c.args.clock.now)
    (line_of g.O.Line.Source g.O.Line.Sink)) call_failure call_lacked_memory c.args.plan.calls _ _ _ _
    (fresh_row_serves g.O.Door.accepted (λ s. s.port.pass) (λ s. s.door.value) (λ s. s.calls) (λ s. s.report.value)
    (door_of g.O.Door.lines g.O.Door.accepted g.O.Door.finished g.O.Door.faults)
    (HasServedCalls (centre_rules.ghosts (number 3)) g.N3.Run.limits g.N3.Run.opening (g.K.Clock.moment c.args.clock.now)
    (line_of g.O.Line.Source g.O.Line.Sink)) _ c.args.plan.calls c.in_ok-network.network.ports.fourth.items
    c.run_network.new.network.ports.fourth.items c.in_ok-network.ensures.fourth c.run_network.ensures.fourth))
