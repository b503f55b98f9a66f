use Rattle.std.proofs.Common.{◌≡◌, ℕ, ◌+◌, ◌*◌, ◌<◌, ◌≤◌, List, map, string_bytes, vec_len, length, refl, sym, ap, subst, ◌∙◌, arith, rules}
use Rattle.pv_outside.specs.declared.limits.Limits.{Limits}
use Rattle.pv_ports.specs.Ends.{line_of}
use Rattle.pv_service.specs.Doors.{door_of}
use Rattle.pv_centres.specs.Carried.{AreQuiet}
use Rattle.pv_centres.specs.Opening.{centre_count}
use Rattle.pv_centres.proofs.Served.{all_finished}
use Rattle.pv_serve.specs.Ended.{AreClosed, AreHandedBack, AreLeft, ServerEnded}
use Rattle.pv_serve.specs.Left.{ServerLeft}
use Rattle.pv_serve.specs.Options.{AskToServe}
use Rattle.pv_serve.specs.Serving.{OnNodeFault, end_by_node, node_limits}
use Rattle.pv_serve.specs.Unopened.{IsUnreadable, IsUnserved}
use Rattle.pv_serve.specs.declared.options.ServeOptions.{ServeOptions}
use Rattle.pv_serve.proofs.Counting.{closed_back, doors_back, ended_if_back, length_kept}
use Rattle.pv_serve.proofs.Ended.{same_weight}
use Rattle.pv_serve.proofs.Ending.{unreadable, work_says}
use Rattle.pv_serve.proofs.Left.{given_there, server_left}
use Rattle.pv_serve.proofs.Places.{AreOver}
use Rattle.pv_serve.proofs.Server.{door_rose, server_ended}
use Rattle.pv_serve.proofs.serving.serve.Goals as goal

-- the disk of the node that was not opened is why
pub returns-in-Err-open_nodes-clause-unopened : goal.returns-in-Err-open_nodes-clause-unopened
returns-in-Err-open_nodes-clause-unopened g c =
    let asked = c.in-Ok.ensures.ok in
    let parts = c.requires.parts c.in-Ok.options asked in
    let shown = c.in-Err-open_nodes.ensures in
    let disks = c.args.disks in
    let not = c.in-Err-open_nodes.not in
    let why : OnNodeFault (IsUnreadable g.D.Reports node_limits disks.items) (end_by_node not.node not.fault) =
    subst (λ (l : Limits). OnNodeFault (IsUnreadable g.D.Reports l disks.items)
    (end_by_node not.node not.fault)) c.node_limits-limits.ensures
    (unreadable g.D.Reports c.node_limits-limits.result disks.items not.node not.fault (omega (arith, shown.not_node, disks.ok.0))
    (omega (arith, parts.nodes, asked.1.numbers.centres.few, disks.ok.0)) shown.fault shown.update_shown shown.first_shown
    shown.second_shown
    shown.third_shown shown.fourth_shown) in
    rw (c.untouched-in-Err-open_nodes.ensures, c.unopened.ensures) why

-- each centre has its ports
pub serve_nodes-requires-clause-callers : goal.serve_nodes-requires-clause-callers
serve_nodes-requires-clause-callers g c =
    let asked = c.in-Ok.ensures.ok in
    let parts = c.requires.parts c.in-Ok.options asked in
    let few = asked.1.numbers.ports.few in
    let centres : centre_count c.in-Ok-open_nodes.nodes ≡ c.in-Ok.options.centres = omega
    (arith, parts.nodes, c.in-Ok-open_nodes.ensures.count) in
    let some : 0 < c.in-Ok.options.ports + 1 = omega arith in
    let small : c.in-Ok.options.ports + 1 ≤ 64 = omega (arith, few) in
    let all : centre_count c.in-Ok-open_nodes.nodes * c.in-Ok.options.ports ≡ vec_len c.args.callers =
    ap (λ (n : ℕ). n * c.in-Ok.options.ports) centres ∙ sym parts.callers_count in
    search (rules, some, small, all)

-- all nodes were opened
pub returns-in-Ok-serve_nodes-clause-unopened : goal.returns-in-Ok-serve_nodes-clause-unopened
returns-in-Ok-serve_nodes-clause-unopened g c =
    (work_says (IsUnreadable g.D.Reports node_limits c.args.disks.items) ⊥ _ (Unit {0}) _ (Unit {0}) c.close.result.status (λ back. tt)
    (λ failed left. tt) c.close.ensures.ends).0

-- the door of a port that has ended since it failed
pub returns-in-Ok-serve_nodes-clause-door_fault : goal.returns-in-Ok-serve_nodes-clause-door_fault
returns-in-Ok-serve_nodes-clause-door_fault g c =
    let served = c.in-Ok-serve_nodes.ensures in
    rw (c.close.ensures.doors.0, c.close.ensures.doors.1)
    (λ is. door_rose _ _ _ _ _ _ _ served.callers_doors served.editors_doors (c.close.ensures.door is))

-- no port has met a fault
pub returns-in-Ok-serve_nodes-clause-finished : goal.returns-in-Ok-serve_nodes-clause-finished
returns-in-Ok-serve_nodes-clause-finished g c =
    let served = c.in-Ok-serve_nodes.ensures in
    rw (c.close.ensures.doors.0, c.close.ensures.doors.1)
    (
    λ all.
    let quiet = c.close.ensures.quiet all in (
      c.in-Ok.options,
      c.in-Ok.ensures.ok,
      all_finished _ _ _ _ served.callers_doors quiet.0,
      all_finished _ _ _ _ served.editors_doors quiet.1,
    )
    )

-- what is known of each step
pub returns-in-Ok-serve_nodes-clause-ends : goal.returns-in-Ok-serve_nodes-clause-ends
returns-in-Ok-serve_nodes-clause-ends g c =
    let opened = c.in-Ok-open_nodes.ensures in
    let over : AreOver g.D.Reports opened.over.0 c.in-Ok-open_nodes.nodes = record {
      update = opened.over.2;
      first = opened.over.3;
      second = opened.over.4;
      third = opened.over.5;
      fourth = opened.over.6;
    } in
    let served = c.in-Ok-serve_nodes.ensures in
    let rows = served.callers in
    let law = c.images_stand_for_one_list.ensures in
    let charges = c.charges_are_stored_first_at_each_centre.ensures in
    let closed = c.in-Ok-serve_nodes.closed in
    let asked = c.in-Ok.ensures.ok in
    let parts = c.requires.parts c.in-Ok.options asked in
    let status = c.close.result.status in
    let callers = map (door_of g.O.Door.lines g.O.Door.accepted g.O.Door.finished g.O.Door.faults) in
    let editors = map (door_of g.E.Door.lines g.E.Door.accepted g.E.Door.finished g.E.Door.faults) in
    let some : 1 ≤ centre_count c.in-Ok-open_nodes.nodes = omega
    (arith, parts.nodes, asked.1.numbers.centres.some, opened.count) in
    rw (c.close.ensures.doors.0, c.close.ensures.doors.1)
    ((work_says (λ node fault. Unit {0})
    (IsUnserved g.D.Reports c.args.disks.items c.close.result.disks.items c.args.callers closed.callers c.args.editors closed.editors)
    (AreClosed g.D.Reports status closed.nodes c.open_nodes.new.disks.items c.close.result.disks.items)
    ((options : ServeOptions) × AskToServe (map string_bytes c.args.words.now) options
    × ServerEnded g.D.Reports node_limits (g.K.Clock.moment c.args.clock.now) (line_of g.O.Line.Source g.O.Line.Sink)
    (line_of g.E.Line.Source g.E.Line.Sink) options.ports options.calls c.args.disks.items c.close.result.disks.items
    (callers c.args.callers.items) (callers closed.callers.items) (editors c.args.editors.items) (editors closed.editors.items) status)
    (AreLeft closed.nodes c.open_nodes.new.disks.items c.close.result.disks.items)
    ((options : ServeOptions) × AskToServe (map string_bytes c.args.words.now) options
    × ServerLeft g.D.Reports node_limits (g.K.Clock.moment c.args.clock.now) (line_of g.O.Line.Source g.O.Line.Sink)
    (line_of g.E.Line.Source g.E.Line.Sink) options.ports options.calls c.args.disks.items c.close.result.disks.items
    (callers c.args.callers.items) (callers closed.callers.items) (editors c.args.editors.items) (editors closed.editors.items) status)
    status
    (λ is.
    let nodes = is.nodes in (
      c.in-Ok.options,
      asked,
      server_ended g.D.Reports law.left c.node_limits-limits.result _ _ _ _ _ _ _ _ _ _ _ _ _ _ c.in-Ok-open_nodes.nodes
          nodes rows.0 (AreQuiet closed.carriers_met.items) c.close.ensures.carriers node_limits c.node_limits-limits.ensures law.update (law.first, charges.first) (law.second, charges.second)
          (law.third, charges.third) (law.fourth, charges.fourth) opened.over.0 opened.over.1
          opened.order some over opened.update opened.first opened.second opened.third opened.fourth
          (rw is.all.update at served.update) (given_there _ _ _ _ is.all.first rows.1)
          (given_there _ _ _ _ is.all.second rows.2) (given_there _ _ _ _ is.all.third rows.3)
          (given_there _ _ _ _ is.all.fourth rows.4) served.callers_doors served.editors_doors
          (subst (λ (before : List g.row.D.Denot). AreHandedBack g.D.Reports status nodes before
          c.close.result.disks.items) opened.taken is.back),
    ))
    (λ failed left. (
      c.in-Ok.options,
      asked,
      server_left g.D.Reports law.left c.node_limits-limits.result _ _ _ _ _ _ _ _ _ _ _ _ _ status c.in-Ok-open_nodes.nodes
          closed.nodes rows.0 (AreQuiet closed.carriers_met.items) node_limits c.node_limits-limits.ensures law.update (law.first, charges.first)
          (law.second, charges.second) (law.third, charges.third) (law.fourth, charges.fourth) opened.over.0 opened.over.1
          opened.order over opened.update opened.first opened.second opened.third opened.fourth served.update rows.1 rows.2 rows.3 rows.4
          served.callers_doors served.editors_doors failed
          (subst (λ (before : List g.row.D.Denot). AreLeft closed.nodes before c.close.result.disks.items) opened.taken left),
    )) c.close.ensures.ends).1)

-- as many are handed back as there were
pub returns-in-Err-open_nodes-clause-all : goal.returns-in-Err-open_nodes-clause-all
returns-in-Err-open_nodes-clause-all g c = λ all.
    let disks = c.open_nodes.new.disks in
    let kept = length_kept g.D.Reports c.args.disks.items disks.items c.in-Err-open_nodes.ensures.handed_back in
    rw c.untouched-in-Err-open_nodes.ensures (omega (arith, kept, disks.ok.0, c.args.disks.ok.0), refl, refl)

pub returns-in-Ok-serve_nodes-clause-all : goal.returns-in-Ok-serve_nodes-clause-all
returns-in-Ok-serve_nodes-clause-all g c = λ all.
    let opened = c.in-Ok-open_nodes.ensures in
    let nodes = c.in-Ok-open_nodes.nodes in
    let served = c.in-Ok-serve_nodes.ensures in
    let closed = c.in-Ok-serve_nodes.closed in
    let result = c.close.result in
    let disks = closed_back g.D.Reports result.status closed.nodes c.open_nodes.new.disks.items result.disks.items
    (ended_if_back _ _ result.status c.close.ensures.begun all c.close.ensures.ends) in
    let callers = doors_back (door_of g.O.Door.lines g.O.Door.accepted g.O.Door.finished g.O.Door.faults) _ c.args.callers.items
    closed.callers.items closed.callers_met.items served.callers_doors in
    let editors = doors_back (door_of g.E.Door.lines g.E.Door.accepted g.E.Door.finished g.E.Door.faults) _ c.args.editors.items
    closed.editors.items closed.editors_met.items served.editors_doors in
    rw (c.close.ensures.doors.0, c.close.ensures.doors.1) (
      omega (
        arith,
        disks,
        ap (λ (l : List g.row.D.Denot). length l) opened.taken,
        opened.count,
        same_weight 1 nodes.first closed.nodes.first _ served.callers.1,
        same_weight 1 nodes.second closed.nodes.second _ served.callers.2,
        same_weight 1 nodes.third closed.nodes.third _ served.callers.3,
        same_weight 1 nodes.fourth closed.nodes.fourth _ served.callers.4,
        result.disks.ok.0,
      ),
      omega (arith, callers, closed.callers.ok.0, c.args.callers.ok.0),
      omega (arith, editors, closed.editors.ok.0, c.args.editors.ok.0),
    )
