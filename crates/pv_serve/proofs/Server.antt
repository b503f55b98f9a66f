-- A server that has ended, from what is known of its nodes and doors at each step.
use denote.Param.{number}
use Rattle.std.proofs.Common.{◌≡◌, ℕ, ◌≤◌, List, [], Option, None, Some, ◌⊎◌, inl, inr, sym, subst, ◌∙◌, arith}
use Rattle.std.specs.Prelude.{IfSome, Ok}
use Rattle.pv_edits.specs.declared.record.Record.{Record}
use Rattle.pv_irc.specs.History.{CentreState, applied_of}
use Rattle.pv_irc.specs.contracts.rules.IrcRulesRules.TheImpl as irc
use Rattle.pv_irc.specs.declared.record.CentreRecord.{CentreRecord}
use Rattle.pv_live.specs.declared.entry.Entry.{Entry}
use Rattle.pv_node.specs.Parts.{Parts}
use Rattle.pv_node.specs.Standing.{Stands}
use Rattle.pv_node.specs.Trail.{trail_records}
use Rattle.pv_outside.specs.declared.limits.Limits.{Limits}
use Rattle.pv_outside.specs.declared.reports.Reports as reports
use Rattle.pv_ports.specs.Ends.{LineState}
use Rattle.pv_service.specs.Calls.{HasServedCalls}
use Rattle.pv_service.specs.Doors.{DoorReport}
use Rattle.pv_service.specs.Sessions.{HasServedSessions}
use Rattle.pv_service.specs.declared.port_report.PortReport.{PortReport}
use Rattle.pv_udc.specs.EditList.{EditList}
use Rattle.pv_udc.specs.contracts.rules.UdcRulesRules.TheImpl as udc
use Rattle.pv_centres.specs.Carried.{taken_count}
use Rattle.pv_centres.specs.Ends.{SomeDoorEnd}
use Rattle.pv_centres.specs.Opening.{AreInOrder, DiskPlaces, IsOpenedOver, IsReady, all_disks, centre_count, count_of, port_counts, weigh}
use Rattle.pv_centres.specs.Parts.{IfThere}
use Rattle.pv_centres.specs.Served.{CentreServed, ServesEachDoor, ServedRows, SomeDoorRose, UpdateServed}
use Rattle.pv_centres.specs.declared.nodes.Nodes.{Nodes}
use Rattle.pv_centres.specs.declared.nodes.OpenedNodes.{OpenedNodes}
use Rattle.pv_centres.proofs.Served.{served_quieter, some_rose}
use Rattle.pv_serve.specs.Ended.{AreHandedBack, IsBrought, IsUpdateBrought, ServerEnded, WouldBeBrought, place_ports}
use Rattle.pv_serve.specs.Kept.{CentreKept, StoresChargesFirst, UpdateKept}
use Rattle.pv_serve.specs.Serving.{HasNoDiskFault, HasServedAll}
use Rattle.pv_serve.specs.declared.status.ServeStatus.{ServeStatus}
use Rattle.pv_serve.proofs.Kept.{centre_keeps, update_keeps}
use Rattle.pv_serve.proofs.Ended.{ClosesSo, first_is, is_brought, node_has_ended, same_weight}
use Rattle.pv_serve.proofs.Places.{AreOver, places_in_order, ports_counts}

-- one of the ports ended since its door failed: the count of that door rose
pub door_rose : {L M D F : Type 0} (calls : ℕ) (olds news : List (DoorReport L)) (met : List (PortReport D F)) (olds' news' : List
    (DoorReport M))
    (met' : List (PortReport D F)) → ServesEachDoor calls olds news met → ServesEachDoor calls olds' news' met'
    → SomeDoorEnd met ⊎ SomeDoorEnd met' → SomeDoorRose olds news ⊎ SomeDoorRose olds' news'
door_rose calls olds news met olds' news' met' each each' (inl some) =
    inl (some_rose calls olds news some.before some.report some.after (subst (ServesEachDoor calls olds news) some.reports_are each)
    some.is_door_end)
door_rose calls olds news met olds' news' met' each each' (inr some) =
    inr (some_rose calls olds' news' some.before some.report some.after (subst (ServesEachDoor calls olds' news') some.reports_are each')
    some.is_door_end)

-- Images of a disk stand for one list. At a centre, charges are stored first.
abbrev pub UpdateLaw : Type 0
UpdateLaw = (image : List ℕ) (one other : List Record) → Stands udc.ghosts image one → Stands udc.ghosts image other → one ≡ other

abbrev pub CentreLaw : ℕ → Type 0
CentreLaw centre = ((image : List ℕ) (one other : List CentreRecord) → Stands (irc.ghosts (number centre)) image one
    → Stands (irc.ghosts (number centre)) image other → one ≡ other) × StoresChargesFirst (irc.ghosts (number centre))

module _ {D F L M : Type 0} (g : reports.Ghosts D) (left : (disk : D) → IfSome (g.reads disk) (g.may_leave disk))
    (limits : Limits) (shown : Option ℕ) (caller_of : L → LineState) (editor_of : M → LineState) (ports calls : ℕ)
    (disks disks' : List D) (callers callers' : List (DoorReport L)) (editors editors' : List (DoorReport M))
    (callers_met editors_met : List (PortReport D F)) (status : ServeStatus D F) (nodes : OpenedNodes D F) (closed : Nodes D F)
    (rows : ServedRows (port_counts ports nodes) callers callers' callers_met) (Quiet : Type 0) (quiet : HasServedAll status → Quiet) where
  -- how the Update Centre was served, and how a centre
  abbrev pub UpdateIs : Type 0 → List Record → Parts D EditList Record → Type 0
  UpdateIs Known opening node = UpdateServed udc.ghosts g limits opening editor_of calls Known editors editors' editors_met (Ok node)

  abbrev pub CentreIs : Type 0 → ℕ → List (DoorReport L) → List (DoorReport L) → List (PortReport D F) → List CentreRecord
      → Parts D CentreState CentreRecord → Type 0
  CentreIs Known centre olds news met opening node =
      CentreServed (irc.ghosts (number centre)) g limits opening shown caller_of calls Known olds news met (Ok node)

  -- what is known if no carrier has met anything is known if all were served
  update_as : (opening : List Record) (node : Parts D EditList Record) → UpdateIs Quiet opening node
      → UpdateIs (HasServedAll status) opening node
  update_as opening node served =
      served_quieter udc.ghosts g limits opening taken_count Quiet (HasServedAll status) quiet
      (HasServedSessions udc.ghosts limits opening editor_of calls) editors editors' editors_met (Ok node) served

  centre_as : (centre : ℕ) (olds news : List (DoorReport L)) (met : List (PortReport D F)) (opening : List CentreRecord)
      (node : Parts D CentreState CentreRecord) → CentreIs Quiet centre olds news met opening node
      → CentreIs (HasServedAll status) centre olds news met opening node
  centre_as centre olds news met opening node served =
      served_quieter (irc.ghosts (number centre)) g limits opening applied_of Quiet (HasServedAll status) quiet
      (HasServedCalls (irc.ghosts (number centre)) limits opening shown caller_of calls) olds news met (Ok node) served

  -- what each keeps, when it is closed
  abbrev UpdateKeeps : List Record → List (Entry Record) → Parts D EditList Record → Type 0
  UpdateKeeps opening log node =
      UpdateKept udc.ghosts limits opening editor_of log g calls (HasServedAll status) editors editors' editors_met node

  abbrev CentreKeeps : ℕ → List (DoorReport L) → List (DoorReport L) → List (PortReport D F) → List CentreRecord → List (Entry CentreRecord)
      → Parts D CentreState CentreRecord → Type 0
  CentreKeeps centre olds news met opening log node =
      CentreKept (irc.ghosts (number centre)) limits opening shown caller_of log g calls (HasServedAll status) olds news met node

  update_closes : (opening : List Record) (node : Parts D EditList Record) → UpdateIs Quiet opening node
      → ClosesSo udc.ghosts g limits (UpdateKeeps opening) opening node
  update_closes opening node served =
      update_keeps udc.ghosts g limits editor_of calls (HasServedAll status) editors editors' editors_met opening node
      (update_as opening node served)

  centre_closes : (centre : ℕ) → StoresChargesFirst (irc.ghosts (number centre)) → (olds news : List (DoorReport L))
      (met : List (PortReport D F)) (opening : List CentreRecord) (node : Parts D CentreState CentreRecord)
      → CentreIs Quiet centre olds news met opening node
      → ClosesSo (irc.ghosts (number centre)) g limits (CentreKeeps centre olds news met opening) opening node
  centre_closes centre law olds news met opening node served =
      centre_keeps (irc.ghosts (number centre)) law g limits shown caller_of calls (HasServedAll status) olds news met opening node
      (centre_as centre olds news met opening node served)

  pub server_ended : (limits' : Limits) → limits ≡ limits' → UpdateLaw → CentreLaw 0 → CentreLaw 1 → CentreLaw 2 → CentreLaw 3
      → (at : DiskPlaces D) → disks ≡ all_disks at → AreInOrder nodes → 1 ≤ centre_count nodes
      → AreOver g at nodes
      → IsReady udc.ghosts g (trail_records nodes.update.trail.items) limits nodes.update.node
      → IfSome nodes.first (λ o. IsReady (irc.ghosts (number 0)) g (trail_records o.trail.items) limits o.node)
      → IfSome nodes.second (λ o. IsReady (irc.ghosts (number 1)) g (trail_records o.trail.items) limits o.node)
      → IfSome nodes.third (λ o. IsReady (irc.ghosts (number 2)) g (trail_records o.trail.items) limits o.node)
      → IfSome nodes.fourth (λ o. IsReady (irc.ghosts (number 3)) g (trail_records o.trail.items) limits o.node)
      → UpdateIs Quiet (trail_records nodes.update.trail.items) closed.update
      → IfThere (λ o n. CentreIs Quiet 0 rows.olds.first rows.news.first rows.met.first (trail_records o.trail.items) n) nodes.first closed.first
      → IfThere (λ o n. CentreIs Quiet 1 rows.olds.second rows.news.second rows.met.second
      (trail_records o.trail.items) n) nodes.second closed.second
      → IfThere (λ o n. CentreIs Quiet 2 rows.olds.third rows.news.third rows.met.third (trail_records o.trail.items) n) nodes.third closed.third
      → IfThere (λ o n. CentreIs Quiet 3 rows.olds.fourth rows.news.fourth rows.met.fourth
      (trail_records o.trail.items) n) nodes.fourth closed.fourth
      → ServesEachDoor calls callers callers' callers_met → ServesEachDoor calls editors editors' editors_met
      → (back : AreHandedBack g status closed [] disks')
      → ServerEnded g limits' shown caller_of editor_of ports calls disks disks' callers callers' editors editors' status
  server_ended limits' same law law0 law1 law2 law3 at places_are order some over ready ready0 ready1 ready2 ready3
      served served0 served1
      served2 served3 callers_doors editors_doors back =
      let ended = back.ended in
      let stands = served.closed.closed.stands in
      let served_first : IfThere (λ o n. CentreIs Quiet 0 rows.olds.first rows.news.first rows.met.first
      (trail_records o.trail.items) n) nodes.first closed.first = served0 in
      let firsts : count_of ended.first ≡ count_of nodes.first = omega (
        arith,
        same_weight 1 nodes.first closed.first _ served_first,
        same_weight 1 closed.first ended.first (WouldBeBrought g status 0 closed.update ended.update) back.first,
      ) in
      let update_rests : HasNoDiskFault status → ended.update.hand ≡ None = λ held.
      first_is (ended.update.hand ≡ None) ended.first nodes.second nodes.third nodes.fourth (omega (arith, order.second, firsts)) order.third
      order.fourth (omega (arith, some, firsts)) (back.update_rests held) in
      subst (λ (l : Limits). ServerEnded g l shown caller_of editor_of ports calls disks disks' callers callers' editors editors'
      status) same
      record {
        places = at;
        places_are = places_are;
        in_order = places_in_order g at nodes over order;
        ended = ended;
        handed_back = back.disks;
        callers_met = callers_met;
        editors_met = editors_met;
        rows = record {
          olds = rows.olds;
          news = rows.news;
          met = rows.met;
          counted = rows.counted ∙ ports_counts g at nodes over ports;
          old_rows = rows.old_rows;
          new_rows = rows.new_rows;
          met_rows = rows.met_rows;
        };
        update = node_has_ended udc.ghosts g law left limits (UpdateIs Quiet) UpdateKeeps (IsUpdateBrought g status)
            (IsUpdateBrought g status) update_closes (λ one end brought. brought.0)
            (λ opening one end serves brought. brought) (HasNoDiskFault status) (λ one end brought. brought.2) (Some nodes.update) (λ o. o.node) (λ o. trail_records o.trail.items) at.update
            (Some closed.update) (Some ended.update) over.update ready served (back.update, update_rests, back.update_runs);
        first = node_has_ended (irc.ghosts (number 0)) g law0.0 left limits (CentreIs Quiet 0 rows.olds.first rows.news.first rows.met.first)
            (CentreKeeps 0 rows.olds.first rows.news.first rows.met.first)
            (WouldBeBrought g status 0 closed.update ended.update) (IsBrought g status 0 ended.update)
            (centre_closes 0 law0.1 rows.olds.first rows.news.first rows.met.first) (λ one end would. would.0)
            (λ opening one end serves would. is_brought g status 0 closed.update ended.update _ stands one end _ serves.closed.closed.stands
            would)
            (HasNoDiskFault status) (λ one end would. would.3) nodes.first (λ o. o.node) (λ o. trail_records o.trail.items) at.first closed.first ended.first over.first ready0 served0 back.first;
        second = node_has_ended (irc.ghosts (number 1)) g law1.0 left limits (CentreIs Quiet 1 rows.olds.second rows.news.second rows.met.second)
            (CentreKeeps 1 rows.olds.second rows.news.second rows.met.second)
            (WouldBeBrought g status 1 closed.update ended.update) (IsBrought g status 1 ended.update)
            (centre_closes 1 law1.1 rows.olds.second rows.news.second rows.met.second) (λ one end would. would.0)
            (λ opening one end serves would. is_brought g status 1 closed.update ended.update _ stands one end _ serves.closed.closed.stands
            would)
            (HasNoDiskFault status) (λ one end would. would.3) nodes.second (λ o. o.node) (λ o. trail_records o.trail.items) at.second closed.second ended.second over.second ready1 served1
            back.second;
        third = node_has_ended (irc.ghosts (number 2)) g law2.0 left limits (CentreIs Quiet 2 rows.olds.third rows.news.third rows.met.third)
            (CentreKeeps 2 rows.olds.third rows.news.third rows.met.third)
            (WouldBeBrought g status 2 closed.update ended.update) (IsBrought g status 2 ended.update)
            (centre_closes 2 law2.1 rows.olds.third rows.news.third rows.met.third) (λ one end would. would.0)
            (λ opening one end serves would. is_brought g status 2 closed.update ended.update _ stands one end _ serves.closed.closed.stands
            would)
            (HasNoDiskFault status) (λ one end would. would.3) nodes.third (λ o. o.node) (λ o. trail_records o.trail.items) at.third closed.third ended.third over.third ready2 served2 back.third;
        fourth = node_has_ended (irc.ghosts (number 3)) g law3.0 left limits (CentreIs Quiet 3 rows.olds.fourth rows.news.fourth rows.met.fourth)
            (CentreKeeps 3 rows.olds.fourth rows.news.fourth rows.met.fourth)
            (WouldBeBrought g status 3 closed.update ended.update) (IsBrought g status 3 ended.update)
            (centre_closes 3 law3.1 rows.olds.fourth rows.news.fourth rows.met.fourth) (λ one end would. would.0)
            (λ opening one end serves would. is_brought g status 3 closed.update ended.update _ stands one end _ serves.closed.closed.stands
            would)
            (HasNoDiskFault status) (λ one end would. would.3) nodes.fourth (λ o. o.node) (λ o. trail_records o.trail.items) at.fourth closed.fourth ended.fourth over.fourth ready3 served3
            back.fourth;
        callers_doors = callers_doors;
        editors_doors = editors_doors;
        full = back.full;
      }
