-- What has become of the disks and doors of a server that has ended.
use denote.Param.{number}
use Rattle.std.specs.Prelude.{◌≡◌, ◌⊎◌, ℕ, ◌≤◌, Bool, List, [], ◌∷◌, ◌++◌, length, Option, None, Some, IfSome, option_to_list}
use Rattle.std.specs.Option.{option_map}
use Rattle.pv_edits.specs.Edits.{taken_of}
use Rattle.pv_edits.specs.declared.record.Record.{Record}
use Rattle.pv_irc.specs.History.{CentreState}
use Rattle.pv_irc.specs.contracts.rules.IrcRulesRules.TheImpl as irc
use Rattle.pv_irc.specs.declared.record.CentreRecord.{CentreRecord}
use Rattle.pv_live.specs.Entries.{with_opening}
use Rattle.pv_live.specs.Run.{IsRun}
use Rattle.pv_live.specs.declared.entry.Entry.{Entry}
use Rattle.pv_node.specs.Parts.{Parts}
use Rattle.pv_node.specs.Standing.{DiskStands, StandsFor}
use Rattle.pv_node.specs.declared.rules.Rules as rules
use Rattle.pv_outside.specs.declared.limits.Limits.{Limits}
use Rattle.pv_outside.specs.declared.limits.TheConstants.{MAX_RECORDS}
use Rattle.pv_outside.specs.declared.reports.Reports as reports
use Rattle.pv_ports.specs.Ends.{LineState}
use Rattle.pv_service.specs.Doors.{DoorReport}
use Rattle.pv_service.specs.declared.port_report.PortReport.{PortReport}
use Rattle.pv_udc.specs.EditList.{EditList}
use Rattle.pv_udc.specs.contracts.rules.UdcRulesRules.TheImpl as udc
use Rattle.pv_centres.specs.Closed.{AreNodes, AreSeenStored, disks_left}
use Rattle.pv_centres.specs.Opening.{DiskPlaces, all_disks, count_of, weigh}
use Rattle.pv_centres.specs.Parts.{IfThere, PerCentre}
use Rattle.pv_centres.specs.Rest.{AddsRecords, AddsRun, AreCarried, NextHasNoRoom, StandsOn, first_full}
use Rattle.pv_centres.specs.Served.{ServesEachDoor, ServedRows}
use Rattle.pv_centres.specs.declared.closed.ClosedNodes.{ClosedNodes}
use Rattle.pv_centres.specs.declared.nodes.Nodes.{Nodes}
use Rattle.pv_serve.specs.Kept.{CentreKept, UpdateKept}
use Rattle.pv_serve.specs.Serving.{HasNoDiskFault, HasServedAll, SaysFull}
use Rattle.pv_serve.specs.declared.status.ServeStatus.{ServeStatus}

module _ {D F : Type 0} where
  -- the disks of these nodes, in order
  abbrev pub disks_of : Nodes D F → List D
  disks_of nodes = nodes.update.journal.disk ∷ (option_to_list (option_map (λ n. n.journal.disk) nodes.first)
      ++ (option_to_list (option_map (λ n. n.journal.disk) nodes.second)
      ++ (option_to_list (option_map (λ n. n.journal.disk) nodes.third)
      ++ option_to_list (option_map (λ n. n.journal.disk) nodes.fourth))))

  -- how many records each has
  abbrev pub counts_of : Nodes D F → List (Option ℕ)
  counts_of nodes = Some nodes.update.journal.count ∷ option_map (λ n. n.journal.count) nodes.first
      ∷ option_map (λ n. n.journal.count) nodes.second ∷ option_map (λ n. n.journal.count) nodes.third
      ∷ option_map (λ n. n.journal.count) nodes.fourth ∷ []

-- the centres that there are come first
pub record PlacesInOrder {D : Type 0} (places : DiskPlaces D) : Type 0 where
  pub second : count_of places.second ≤ count_of places.first
  pub third : count_of places.third ≤ count_of places.second
  pub fourth : count_of places.fourth ≤ count_of places.third

-- how many ports each centre has, if each that is there has this many
abbrev pub place_ports : {D : Type 0} → ℕ → DiskPlaces D → PerCentre ℕ
place_ports ports places = record {
  first = weigh (λ there. ports) places.first;
  second = weigh (λ there. ports) places.second;
  third = weigh (λ there. ports) places.third;
  fourth = weigh (λ there. ports) places.fourth;
}

-- ---- what was brought

-- A centre of this number, and the Update Centre, were brought what they lacked of each other, as far as there was room: the items that
-- the centre had are taken up, and then the edit list is applied.
pub record IsCarried {D : Type 0} (centre : ℕ) (update : Parts D EditList Record)
    (closed ended : Parts D CentreState CentreRecord) : Type 0 where
  pub taken : (length closed.state.items ≤ taken_of update.state.records centre)
      ⊎ (update.journal.count ≡ update.state.limits.records)
  pub applied : (length update.state.records ≤ ended.state.applied)
      ⊎ ((ended.journal.count ≡ ended.state.limits.records) ⊎ NextHasNoRoom update.state.records ended.state)

module _ {D F : Type 0} (g : reports.Ghosts D) (status : ServeStatus D F) where
  -- unless a disk failed, a node has nothing in hand, so that its disk stands for its records and for no more
  abbrev pub Rests : {State Rec : Type 0} → Parts D State Rec → Type 0
  Rests ended = HasNoDiskFault status → ended.hand ≡ None

  -- A centre stands for what it stood for, perhaps with more records after it. Unless a disk failed, the rest is carried, and goes on as a
  -- run.
  abbrev pub IsBrought : ℕ → Parts D EditList Record → Parts D CentreState CentreRecord → Parts D CentreState CentreRecord → Type 0
  IsBrought centre update closed ended = AddsRecords (irc.ghosts (number centre)) g closed ended
      × (HasNoDiskFault status → IsCarried centre update closed ended) × Rests ended
      × (HasNoDiskFault status → AddsRun (irc.ghosts (number centre)) g closed ended)

  -- so does the Update Centre
  abbrev pub IsUpdateBrought : Parts D EditList Record → Parts D EditList Record → Type 0
  IsUpdateBrought closed ended = AddsRecords udc.ghosts g closed ended × Rests ended × (HasNoDiskFault status → AddsRun udc.ghosts g closed ended)

  -- so it is, whatever records the two stood for when they were closed
  abbrev pub WouldBeBrought : ℕ → Parts D EditList Record → Parts D EditList Record → Parts D CentreState CentreRecord
      → Parts D CentreState CentreRecord → Type 0
  WouldBeBrought centre update_closed update closed ended = AddsRecords (irc.ghosts (number centre)) g closed ended
      × (HasNoDiskFault status → (noted : Bool) × AreCarried udc.ghosts (irc.ghosts
      (number centre)) g noted centre update_closed update closed ended) × Rests ended
      × (HasNoDiskFault status → AddsRun (irc.ghosts (number centre)) g closed ended)

  -- Nodes that were closed were brought what they lacked, and then their disks were handed back after others.
  pub record AreHandedBack (closed : Nodes D F) (before after : List D) : Type 0 where
    pub ended : Nodes D F
    pub update : AddsRecords udc.ghosts g closed.update ended.update
    pub update_rests : HasNoDiskFault status → IfSome ended.first (λ there. ended.update.hand ≡ None)
    pub update_runs : HasNoDiskFault status → AddsRun udc.ghosts g closed.update ended.update
    pub first : IfThere (WouldBeBrought 0 closed.update ended.update) closed.first ended.first
    pub second : IfThere (WouldBeBrought 1 closed.update ended.update) closed.second ended.second
    pub third : IfThere (WouldBeBrought 2 closed.update ended.update) closed.third ended.third
    pub fourth : IfThere (WouldBeBrought 3 closed.update ended.update) closed.fourth ended.fourth
    pub disks : after ≡ before ++ disks_of ended
    pub full : SaysFull (first_full MAX_RECORDS 0 (counts_of ended)) status

-- what became of nodes as they were closed: all were given back, and then they were brought what they lacked
module _ {D F : Type 0} (g : reports.Ghosts D) (status : ServeStatus D F) (closed : ClosedNodes D F) where
  pub record AreClosed (before after : List D) : Type 0 where
    pub nodes : Nodes D F
    pub all : AreNodes closed nodes
    pub back : AreHandedBack g status nodes before after

-- or only their disks were, after others, and what the passes have seen was counted to be stored
module _ {D F : Type 0} (closed : ClosedNodes D F) where
  pub record AreLeft (before after : List D) : Type 0 where
    pub seen : AreSeenStored closed
    pub disks : after ≡ before ++ disks_left closed

-- ---- the whole

-- A node from its disk on: it was opened with the records that the disk stood for, and closed with those of a run after them, which is its
-- log; by these it was served so. Then it was brought what it lacked, and in the end it stands for all of these; so does each image that a
-- crash may leave of its disk. Unless a disk failed, what was brought goes on as a run, too.
module _ {S State Request Rec Reply D : Type 0} (r : rules.Ghosts S State Request Rec Reply) (g : reports.Ghosts D) (limits : Limits)
    (Serves : List Rec → List (Entry Rec) → Parts D State Rec → Type 0) (Brings : Parts D State Rec → Parts D State Rec → Type 0) (Held : Type 0) where
  pub record HasEnded (disk : D) (ended : Parts D State Rec) : Type 0 where
    pub opening : List Rec
    pub opened : (records : List Rec) → DiskStands r g disk records → opening ≡ records
    pub closed : Parts D State Rec
    pub log : List (Entry Rec)
    pub run : IsRun r limits opening log
    pub served : Serves opening log closed
    pub brought : Brings closed ended
    pub more : List Rec
    pub stands : StandsFor r g ended (with_opening opening log ++ more)
    pub runs : Held → StandsOn r g limits (with_opening opening log) ended

module _ {D F L M : Type 0} (g : reports.Ghosts D) (limits : Limits) (shown : Option ℕ) (caller_of : L → LineState) (editor_of : M
    → LineState)
    (ports calls : ℕ) where
  -- A server has ended. Over these disks it opened its nodes, its ports have served the doors, and what the nodes then lacked of each
  -- other was brought them. The disks that are handed back are theirs, in order, and so are the doors.
  pub record ServerEnded (disks disks' : List D) (callers callers' : List (DoorReport L)) (editors editors' : List (DoorReport M))
      (status : ServeStatus D F) : Type 0 where
    pub places : DiskPlaces D
    pub places_are : disks ≡ all_disks places
    pub in_order : PlacesInOrder places
    pub ended : Nodes D F
    pub handed_back : disks' ≡ disks_of ended
    pub callers_met : List (PortReport D F)
    pub editors_met : List (PortReport D F)
    pub rows : ServedRows (place_ports ports places) callers callers' callers_met
    pub update : IfThere (HasEnded udc.ghosts g limits (λ opening log closed. UpdateKept udc.ghosts limits opening editor_of log g calls
        (HasServedAll status) editors editors' editors_met closed) (IsUpdateBrought g status) (HasNoDiskFault status)) places.update (Some ended.update)
    pub first : IfThere (HasEnded (irc.ghosts (number 0)) g limits (λ opening log closed. CentreKept (irc.ghosts
        (number 0)) limits opening shown caller_of log g calls (HasServedAll status)
        rows.olds.first rows.news.first rows.met.first closed) (IsBrought g status 0 ended.update)
        (HasNoDiskFault status)) places.first ended.first
    pub second : IfThere (HasEnded (irc.ghosts (number 1)) g limits (λ opening log closed. CentreKept (irc.ghosts
        (number 1)) limits opening shown caller_of log g calls (HasServedAll status)
        rows.olds.second rows.news.second rows.met.second closed) (IsBrought g status 1 ended.update)
        (HasNoDiskFault status)) places.second ended.second
    pub third : IfThere (HasEnded (irc.ghosts (number 2)) g limits (λ opening log closed. CentreKept (irc.ghosts
        (number 2)) limits opening shown caller_of log g calls (HasServedAll status)
        rows.olds.third rows.news.third rows.met.third closed) (IsBrought g status 2 ended.update)
        (HasNoDiskFault status)) places.third ended.third
    pub fourth : IfThere (HasEnded (irc.ghosts (number 3)) g limits (λ opening log closed. CentreKept (irc.ghosts
        (number 3)) limits opening shown caller_of log g calls (HasServedAll status)
        rows.olds.fourth rows.news.fourth rows.met.fourth closed) (IsBrought g status 3 ended.update)
        (HasNoDiskFault status)) places.fourth ended.fourth
    pub callers_doors : ServesEachDoor calls callers callers' callers_met
    pub editors_doors : ServesEachDoor calls editors editors' editors_met
    pub full : SaysFull (first_full MAX_RECORDS 0 (counts_of ended)) status
