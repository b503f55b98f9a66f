-- A server whose disks are left, from what is known of its nodes and doors at each step.
use denote.Param.{number}
use Rattle.std.proofs.Common.{◌≡◌, ℕ, true, List, [], Option, None, Some, subst, ◌∙◌}
use Rattle.std.specs.Prelude.{IfSome, Ok}
use Rattle.std.specs.Option.{option_map}
use Rattle.pv_edits.specs.declared.record.Record.{Record}
use Rattle.pv_irc.specs.History.{CentreState}
use Rattle.pv_irc.specs.contracts.rules.IrcRulesRules.TheImpl as irc
use Rattle.pv_irc.specs.declared.record.CentreRecord.{CentreRecord}
use Rattle.pv_live.specs.declared.entry.Entry.{Entry}
use Rattle.pv_node.specs.Parts.{Parts}
use Rattle.pv_node.specs.Trail.{trail_records}
use Rattle.pv_outside.specs.declared.limits.Limits.{Limits}
use Rattle.pv_outside.specs.declared.reports.Reports as reports
use Rattle.pv_ports.specs.Ends.{LineState}
use Rattle.pv_service.specs.Doors.{DoorReport}
use Rattle.pv_service.specs.declared.port_report.PortReport.{PortReport}
use Rattle.pv_udc.specs.EditList.{EditList}
use Rattle.pv_udc.specs.contracts.rules.UdcRulesRules.TheImpl as udc
use Rattle.pv_centres.specs.Closed.{disk_left, is_seen_stored}
use Rattle.pv_centres.specs.Opening.{AreInOrder, DiskPlaces, IsOpenedOver, IsReady, all_disks, port_counts}
use Rattle.pv_centres.specs.Parts.{IfThere}
use Rattle.pv_centres.specs.Served.{CentreServed, ClosedNode, ServesEachDoor, ServedRows, UpdateServed}
use Rattle.pv_centres.specs.declared.closed.ClosedNodes.{ClosedNodes}
use Rattle.pv_centres.specs.declared.nodes.OpenedNodes.{OpenedNodes}
use Rattle.pv_serve.specs.Ended.{AreLeft}
use Rattle.pv_serve.specs.Kept.{HasKeptCalls, HasKeptSessions}
use Rattle.pv_serve.specs.Left.{NodeLeft, HaveServed, ServerLeft}
use Rattle.pv_serve.specs.Serving.{HasDiskFault}
use Rattle.pv_serve.specs.declared.status.ServeStatus.{ServeStatus}
use Rattle.pv_serve.proofs.Kept.{centre_leaves, update_leaves}
use Rattle.pv_serve.proofs.Leaving.{node_has_left}
use Rattle.pv_serve.proofs.Places.{AreOver, places_in_order, ports_counts}
use Rattle.pv_serve.proofs.Server.{CentreLaw, UpdateLaw}

-- what holds of a node that was closed holds of it as it was given back
pub given_there : {O D F State Rec : Type 0} (Becomes : O → ClosedNode D F State Rec → Type 0) (opened : Option O)
    (closed : Option (ClosedNode D F State Rec)) (nodes : Option (Parts D State Rec)) → closed ≡ option_map Ok nodes
    → IfThere Becomes opened closed → IfThere (λ o n. Becomes o (Ok n)) opened nodes
given_there {O} {D} {F} {State} {Rec} Becomes opened closed nodes same is = by opened nodes (subst (IfThere Becomes opened) same is)
  where
    by : (o : Option O) (n : Option (Parts D State Rec)) → IfThere Becomes o (option_map Ok n) → IfThere (λ o n. Becomes o (Ok n)) o n
    by None None is = tt
    by (Some o) (Some n) is = is
    by None (Some n) is = absurd is
    by (Some o) None is = absurd is

module _ {D F L M : Type 0} (g : reports.Ghosts D) (left : (disk : D) → IfSome (g.reads disk) (g.may_leave disk))
    (limits : Limits) (shown : Option ℕ) (caller_of : L → LineState) (editor_of : M → LineState) (ports calls : ℕ)
    (disks disks' : List D) (callers callers' : List (DoorReport L)) (editors editors' : List (DoorReport M))
    (callers_met editors_met : List (PortReport D F)) (status : ServeStatus D F) (nodes : OpenedNodes D F) (closed : ClosedNodes D F)
    (rows : ServedRows (port_counts ports nodes) callers callers' callers_met) (Quiet : Type 0) where
  -- how the Update Centre was served, and how a centre
  abbrev UpdateIs : List Record → ClosedNode D F EditList Record → Type 0
  UpdateIs opening node = UpdateServed udc.ghosts g limits opening editor_of calls Quiet editors editors' editors_met node

  abbrev CentreIs : ℕ → List (DoorReport L) → List (DoorReport L) → List (PortReport D F) → List CentreRecord
      → ClosedNode D F CentreState CentreRecord → Type 0
  CentreIs centre olds news met opening node =
      CentreServed (irc.ghosts (number centre)) g limits opening shown caller_of calls Quiet olds news met node

  -- what is left of each keeps
  abbrev UpdateLeaves : List Record → List (Entry Record) → Type 0
  UpdateLeaves opening log = HaveServed (HasKeptSessions udc.ghosts limits opening editor_of log calls) editors editors' editors_met

  abbrev CentreLeaves : ℕ → List (DoorReport L) → List (DoorReport L) → List (PortReport D F) → List CentreRecord
      → List (Entry CentreRecord) → Type 0
  CentreLeaves centre olds news met opening log =
      HaveServed (HasKeptCalls (irc.ghosts (number centre)) limits opening shown caller_of log calls) olds news met

  -- a centre, if the network has it
  centre_has_left : {B : Type 0} (centre : ℕ) → CentreLaw centre → (olds news : List (DoorReport L)) (met : List (PortReport D F))
      (opened : Option B) (node_of : B → Parts D CentreState CentreRecord) (opening_of : B → List CentreRecord) (disk : Option D)
      (node : Option (ClosedNode D F CentreState CentreRecord))
      → IfThere (λ one o. IsOpenedOver (irc.ghosts (number centre)) g one (node_of o)) disk opened
      → IfSome opened (λ o. IsReady (irc.ghosts (number centre)) g (opening_of o) limits (node_of o))
      → IfThere (λ o n. CentreIs centre olds news met (opening_of o) n) opened node → IfSome node (λ n. is_seen_stored n ≡ true)
      → IfThere (NodeLeft (irc.ghosts (number centre)) g limits (CentreLeaves centre olds news met)) disk (option_map disk_left node)
  centre_has_left centre law olds news met =
      node_has_left (irc.ghosts (number centre)) g law.0 left limits (CentreIs centre olds news met) (CentreLeaves centre olds news met)
      (λ opening node served seen. centre_leaves (irc.ghosts (number centre)) law.1 g limits shown caller_of calls Quiet olds news met opening
      node served seen)

  pub server_left : (limits' : Limits) → limits ≡ limits' → UpdateLaw → CentreLaw 0 → CentreLaw 1 → CentreLaw 2 → CentreLaw 3
      → (at : DiskPlaces D) → disks ≡ all_disks at → AreInOrder nodes → AreOver g at nodes
      → IsReady udc.ghosts g (trail_records nodes.update.trail.items) limits nodes.update.node
      → IfSome nodes.first (λ o. IsReady (irc.ghosts (number 0)) g (trail_records o.trail.items) limits o.node)
      → IfSome nodes.second (λ o. IsReady (irc.ghosts (number 1)) g (trail_records o.trail.items) limits o.node)
      → IfSome nodes.third (λ o. IsReady (irc.ghosts (number 2)) g (trail_records o.trail.items) limits o.node)
      → IfSome nodes.fourth (λ o. IsReady (irc.ghosts (number 3)) g (trail_records o.trail.items) limits o.node)
      → UpdateIs (trail_records nodes.update.trail.items) closed.update
      → IfThere (λ o n. CentreIs 0 rows.olds.first rows.news.first rows.met.first (trail_records o.trail.items) n) nodes.first closed.first
      → IfThere (λ o n. CentreIs 1 rows.olds.second rows.news.second rows.met.second
      (trail_records o.trail.items) n) nodes.second closed.second
      → IfThere (λ o n. CentreIs 2 rows.olds.third rows.news.third rows.met.third (trail_records o.trail.items) n) nodes.third closed.third
      → IfThere (λ o n. CentreIs 3 rows.olds.fourth rows.news.fourth rows.met.fourth
      (trail_records o.trail.items) n) nodes.fourth closed.fourth
      → ServesEachDoor calls callers callers' callers_met → ServesEachDoor calls editors editors' editors_met
      → HasDiskFault status → AreLeft closed [] disks'
      → ServerLeft g limits' shown caller_of editor_of ports calls disks disks' callers callers' editors editors' status
  server_left limits' same law law0 law1 law2 law3 at places_are order over ready ready0 ready1 ready2 ready3 served served0 served1
      served2 served3 callers_doors editors_doors failed back =
      subst (λ (l : Limits). ServerLeft g l shown caller_of editor_of ports calls disks disks' callers callers' editors editors'
      status) same
      record {
        failed = failed;
        places = at;
        places_are = places_are;
        in_order = places_in_order g at nodes over order;
        left = record {
          update = Some (disk_left closed.update);
          first = option_map disk_left closed.first;
          second = option_map disk_left closed.second;
          third = option_map disk_left closed.third;
          fourth = option_map disk_left closed.fourth;
        };
        handed_back = back.disks;
        callers_met = callers_met;
        editors_met = editors_met;
        rows = record {
          olds = rows.olds;
          news = rows.news;
          met = rows.met;
          counted = rows.counted ∙ ports_counts g at nodes over ports;
          old_rows = rows.old_rows;
          new_rows = rows.new_rows;
          met_rows = rows.met_rows;
        };
        update = node_has_left udc.ghosts g law left limits UpdateIs UpdateLeaves
            (λ opening node served seen. update_leaves udc.ghosts g limits editor_of calls Quiet editors editors' editors_met opening node
            served seen) (Some nodes.update) (λ o. o.node) (λ o. trail_records o.trail.items) at.update (Some closed.update) over.update ready
            served back.seen.update;
        first = centre_has_left 0 law0 rows.olds.first rows.news.first rows.met.first nodes.first (λ o. o.node)
            (λ o. trail_records o.trail.items) at.first closed.first over.first ready0 served0 back.seen.first;
        second = centre_has_left 1 law1 rows.olds.second rows.news.second rows.met.second nodes.second (λ o. o.node)
            (λ o. trail_records o.trail.items) at.second closed.second over.second ready1 served1 back.seen.second;
        third = centre_has_left 2 law2 rows.olds.third rows.news.third rows.met.third nodes.third (λ o. o.node)
            (λ o. trail_records o.trail.items) at.third closed.third over.third ready2 served2 back.seen.third;
        fourth = centre_has_left 3 law3 rows.olds.fourth rows.news.fourth rows.met.fourth nodes.fourth (λ o. o.node)
            (λ o. trail_records o.trail.items) at.fourth closed.fourth over.fourth ready3 served3 back.seen.fourth;
        callers_doors = callers_doors;
        editors_doors = editors_doors;
      }
