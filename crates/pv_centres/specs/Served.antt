-- What has become of a node and of the doors of its ports, once their threads have ended and it was closed.
use Rattle.std.specs.Prelude.{◌≡◌, ℕ, ◌+◌, ◌<◌, ◌≤◌, List, [], ◌∷◌, ◌++◌, length, map, All, Option, Some, None, Result, Ok, Err, slice_index_or}
use Rattle.pv_edits.specs.declared.record.Record.{Record}
use Rattle.pv_irc.specs.History.{CentreState, applied_of}
use Rattle.pv_irc.specs.declared.record.CentreRecord.{CentreRecord}
use Rattle.pv_irc.specs.declared.reply.IrcReply.{IrcReply}
use Rattle.pv_irc.specs.declared.request.IrcRequest.{IrcRequest}
use Rattle.pv_outside.specs.Counts.{Rose}
use Rattle.pv_outside.specs.declared.limits.Limits.{Limits}
use Rattle.pv_outside.specs.declared.reports.Reports as reports
use Rattle.pv_node.specs.declared.rules.Rules as rules
use Rattle.pv_node.specs.Parts.{Parts}
use Rattle.pv_group.specs.Closing.{IsDiskLeft}
use Rattle.pv_group.specs.declared.outcome.LeftDisk.{LeftDisk}
use Rattle.pv_live.specs.Closing.{IsClosed}
use Rattle.pv_live.specs.Entries.{with_opening}
use Rattle.pv_live.specs.Pass.{Standing, new_pass, told_count, failed_count}
use Rattle.pv_ports.specs.Ends.{LineState}
use Rattle.pv_service.specs.Calls.{HasServedCalls}
use Rattle.pv_service.specs.Doors.{DoorReport}
use Rattle.pv_service.specs.Sessions.{HasServedSessions}
use Rattle.pv_service.specs.declared.port_report.PortFault.TheVariants.{Door}
use Rattle.pv_service.specs.declared.port_report.PortReport.{PortReport}
use Rattle.pv_service.specs.declared.caller_stand.TheConstants.{MAX_ACCEPTED}
use Rattle.pv_udc.specs.EditList.{EditList}
use Rattle.pv_udc.specs.declared.reply.UdcReply.{UdcReply}
use Rattle.pv_udc.specs.declared.request.UdcRequest.{UdcRequest}
use Rattle.pv_centres.specs.Carried.{taken_count}
use Rattle.pv_centres.specs.Parts.{PerCentre, all_rows, row_lengths}

-- a pass that has seen nothing, and was used for nothing
abbrev pub IsNewPass : {Rec : Type 0} → Standing Rec → Type 0
IsNewPass pass = pass ≡ new_pass pass.number

-- A row of stands, each of which is to serve this many connections: there are `count` of them, their passes are new, and the counts of
-- their doors are not at their end.
module _ {T Rec O : Type 0} (accepted : O → ℕ) (pass_of : T → Standing Rec) (door_of : T → O) (calls_of : T → ℕ) where
  pub record IsFreshRow (count calls : ℕ) (stands : List T) : Type 0 where
    pub counted : length stands ≡ count
    pub passes : All (λ stand. IsNewPass (pass_of stand)) stands
    pub lines : All (λ stand. calls_of stand ≡ calls) stands
    pub room : All (λ stand. accepted (door_of stand) < MAX_ACCEPTED) stands

-- what became of a node as it was closed: it was given back, or, if a call of its disk failed then, its disk was
abbrev pub ClosedNode : (D F State Rec : Type 0) → Type 0
ClosedNode D F State Rec = Result (Parts D State Rec) (LeftDisk D F)

-- A node that was opened with these records was closed with these passes of its ports, and those of carriers, and given back. If nothing
-- hides what carriers have stored, the records that were not brought are at most as many as its ports were told of, or failed to store.
module _ {S State Request Rec Reply D : Type 0} (r : rules.Ghosts S State Request Rec Reply) (d : reports.Ghosts D) (limits : Limits)
    (opening : List Rec) (brought : List Rec → ℕ) (Quiet : Type 0) where
  pub record IsNodeClosedWith (ports : List (Standing Rec)) (node : Parts D State Rec) : Type 0 where
    pub carriers : List (Standing Rec)
    pub asked : ℕ
    pub closed : IsClosed r d limits opening (ports ++ carriers) node asked
    pub few : Quiet → asked + brought opening ≤ told_count ports + failed_count ports + brought (with_opening opening closed.log)

module _ {S State Request Rec Reply D F : Type 0} (r : rules.Ghosts S State Request Rec Reply) (d : reports.Ghosts D) (limits : Limits)
    (opening : List Rec) where
  -- it was closed with these passes, which are all that it had
  abbrev pub IsGivenBack : List (Standing Rec) → ClosedNode D F State Rec → Type 0
  IsGivenBack passes (Ok node) = (asked : ℕ) × IsClosed r d limits opening passes node asked
  IsGivenBack passes (Err left) = IsDiskLeft r d limits opening passes left

  -- it was closed with these passes of its ports, and those of carriers, and its disk was given back
  pub record IsDiskLeftWith (ports : List (Standing Rec)) (disk : LeftDisk D F) : Type 0 where
    pub carriers : List (Standing Rec)
    pub left : IsDiskLeft r d limits opening (ports ++ carriers) disk

  -- it, or its disk, was given back
  abbrev pub IsClosedWith : (List Rec → ℕ) → Type 0 → List (Standing Rec) → ClosedNode D F State Rec → Type 0
  IsClosedWith brought Quiet ports (Ok node) = IsNodeClosedWith r d limits opening brought Quiet ports node
  IsClosedWith brought Quiet ports (Err disk) = IsDiskLeftWith ports disk

-- How a port has served its door: from this pass and door, to this pass and door, with this report.
module _ {Rec L R : Type 0} (HasServed : Standing Rec → L → Standing Rec → L → R → Type 0) where
  -- a port has served its door, by a pass that was new
  pub record ServesAnew (old : L) (pass : Standing Rec) (new : L) (report : R) : Type 0 where
    pub start : Standing Rec
    pub is_new : IsNewPass start
    pub served : HasServed start old pass new report

  -- each door became another, served by a port, whose pass is then this, and who reports this
  abbrev pub EachServes : List L → List (Standing Rec) → List L → List R → Type 0
  EachServes [] [] [] [] = Unit {0}
  EachServes (old ∷ olds) (pass ∷ passes) (new ∷ news) (report ∷ reports) =
      ServesAnew old pass new report × EachServes olds passes news reports
  EachServes _ _ _ _ = ⊥

  -- A node was opened with these records, its ports have served these doors, each with a report, and it was closed: it has the records of
  -- the opening and those of a run. Each port's pass has seen a prefix of them; so have the passes of carriers.
  module _ {S State Request Reply D F : Type 0} (r : rules.Ghosts S State Request Rec Reply) (d : reports.Ghosts D) (limits : Limits)
      (brought : List Rec → ℕ) (Quiet : Type 0) where
    pub record NodeServed (opening : List Rec) (old new : List L) (reports : List R) (node : ClosedNode D F State Rec) : Type 0 where
      pub passes : List (Standing Rec)
      pub ports : EachServes old passes new reports
      pub closed : IsClosedWith r d limits opening brought Quiet passes node

-- a centre was served from its opening to its closing, each connection of its doors by a call
module _ {S L D F : Type 0} (r : rules.Ghosts S CentreState IrcRequest CentreRecord IrcReply) (d : reports.Ghosts D) (limits : Limits)
    (opening : List CentreRecord) (shown : Option ℕ) (report_of : L → LineState) (calls : ℕ) (Quiet : Type 0) where
  abbrev pub CentreServed : List (DoorReport L) → List (DoorReport L) → List (PortReport D F)
      → ClosedNode D F CentreState CentreRecord → Type 0
  CentreServed = NodeServed (HasServedCalls r limits opening shown report_of calls) r d limits applied_of Quiet opening

-- so was the Update Centre, each connection by a session
module _ {S L D F : Type 0} (r : rules.Ghosts S EditList UdcRequest Record UdcReply) (d : reports.Ghosts D) (limits : Limits)
    (opening : List Record) (report_of : L → LineState) (calls : ℕ) (Quiet : Type 0) where
  abbrev pub UpdateServed : List (DoorReport L) → List (DoorReport L) → List (PortReport D F) → ClosedNode D F EditList Record → Type 0
  UpdateServed = NodeServed (HasServedSessions r limits opening report_of calls) r d limits taken_count Quiet opening

-- The doors of all callers, old and new, and the reports of their ports, in rows: of each centre those of its ports, as many as are counted.
pub record ServedRows {L R : Type 0} (counts : PerCentre ℕ) (old new : List L) (reports : List R) : Type 0 where
  pub olds : PerCentre (List L)
  pub news : PerCentre (List L)
  pub met : PerCentre (List R)
  pub counted : row_lengths olds ≡ counts
  pub old_rows : old ≡ all_rows olds
  pub new_rows : new ≡ all_rows news
  pub met_rows : reports ≡ all_rows met

-- What is known of a door from its counts: `count` connections were let in and given back, as many as the port was to serve unless there
-- was a fault; and if that was the door's, its count of failed accepts rose.
pub record DoorServed {L D F : Type 0} (calls : ℕ) (old new : DoorReport L) (report : PortReport D F) : Type 0 where
  pub count : ℕ
  pub accepted : new.accepted ≡ old.accepted + count
  pub finished : new.finished ≡ old.finished + count
  pub faults : old.faults ≤ new.faults
  pub within : count ≤ calls
  pub all : report.fault ≡ None → count ≡ calls
  pub rose : report.fault ≡ Some Door → Rose old.faults new.faults

-- of each of these doors
abbrev pub ServesEachDoor : {L D F : Type 0} → ℕ → List (DoorReport L) → List (DoorReport L) → List (PortReport D F) → Type 0
ServesEachDoor calls [] [] [] = Unit {0}
ServesEachDoor calls (old ∷ olds) (new ∷ news) (report ∷ reports) = DoorServed calls old new report
    × ServesEachDoor calls olds news reports
ServesEachDoor calls _ _ _ = ⊥

-- the count of failed accepts of one of these doors rose
pub record SomeDoorRose {L : Type 0} (old new : List (DoorReport L)) : Type 0 where
  pub place : ℕ
  pub within : place < length old
  pub rose : (door : DoorReport L) → Rose (slice_index_or old place door).faults (slice_index_or new place door).faults

-- each of these doors has given back this many connections more
abbrev pub GiveBackMore : {L : Type 0} → ℕ → List (DoorReport L) → List (DoorReport L) → Type 0
GiveBackMore calls old new = map (λ door. door.finished) new ≡ map (λ door. door.finished + calls) old
