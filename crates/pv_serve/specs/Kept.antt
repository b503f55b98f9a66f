-- What the list of a node, once it is closed, keeps of the calls and sessions that its ports have served.
use Rattle.std.specs.Prelude.{ℕ, ◌≤◌, List, [], ◌∷◌, length, All, Option, Ok}
use Rattle.pv_outside.specs.declared.limits.Limits.{Limits}
use Rattle.pv_outside.specs.declared.reports.Reports as reports
use Rattle.pv_node.specs.declared.rules.Rules as rules
use Rattle.pv_node.specs.Parts.{Parts}
use Rattle.pv_edits.specs.declared.record.Record.{Record}
use Rattle.pv_irc.specs.History.{CentreState, applied_of}
use Rattle.pv_irc.specs.declared.record.CentreRecord.{CentreRecord}
use Rattle.pv_irc.specs.declared.reply.IrcReply.{IrcReply}
use Rattle.pv_irc.specs.declared.request.IrcRequest.{IrcRequest}
use Rattle.pv_live.specs.Entries.{with_opening}
use Rattle.pv_live.specs.Pass.{Standing}
use Rattle.pv_live.specs.declared.entry.Entry.{Entry}
use Rattle.pv_ports.specs.Ends.{LineState}
use Rattle.pv_ports.specs.Talk.{HasRecord, Happening, IsTalk, Talked, charges_of}
use Rattle.pv_ports.specs.declared.edit_end.EditEnd.{EditEnd}
use Rattle.pv_ports.specs.declared.end.CallEnd.{CallEnd}
use Rattle.pv_service.specs.Calls.{ServesCall, call_failure, call_lacked_memory}
use Rattle.pv_service.specs.Doors.{DoorReport}
use Rattle.pv_service.specs.Serving.{Served, HasServed}
use Rattle.pv_service.specs.Sessions.{ServesSession, session_failure, session_lacked_memory}
use Rattle.pv_service.specs.declared.port_report.PortReport.{PortReport}
use Rattle.pv_session.specs.State.{CallState}
use Rattle.pv_session.specs.declared.step.Step.{Step}
use Rattle.pv_udc.specs.EditList.{EditList}
use Rattle.pv_udc.specs.declared.reply.UdcReply.{UdcReply}
use Rattle.pv_udc.specs.declared.request.UdcRequest.{UdcRequest}
use Rattle.pv_centres.specs.Carried.{taken_count}
use Rattle.pv_centres.specs.Served.{NodeServed}

-- these marks never fall, and lie between these two
abbrev pub RiseWithin : ℕ → ℕ → List ℕ → Type 0
RiseWithin least most [] = least ≤ most
RiseWithin least most (mark ∷ marks) = (least ≤ mark) × RiseWithin mark most marks

-- these marks never fall, and lie between the lengths of a node's list at its opening and at its closing
abbrev pub AreMarksIn : {Rec : Type 0} → List Rec → List (Entry Rec) → List ℕ → Type 0
AreMarksIn opening log marks = RiseWithin (length opening) (length (with_opening opening log)) marks

-- a law of calls: each charge that a call had stored is among the records that its pass has seen
abbrev pub StoresChargesFirst : {S : Type 0} → rules.Ghosts S CentreState IrcRequest CentreRecord IrcReply → Type 0
StoresChargesFirst r = (limits : Limits) (opening : List CentreRecord) (shown : Option ℕ) (happened : List Happening)
    (start pass : Standing CentreRecord) (call : CallState) (step : Step) (talked : Talked)
    → IsTalk r limits opening shown happened start pass call step talked → All (HasRecord pass.seen) (charges_of happened)

module _ {S L D F : Type 0} (r : rules.Ghosts S CentreState IrcRequest CentreRecord IrcReply) (limits : Limits)
    (opening : List CentreRecord) (shown : Option ℕ) (report_of : L → LineState) (log : List (Entry CentreRecord)) where
  -- A call served a connection. The closed list of the centre has its marks, and the record of each charge that it had stored, so of each
  -- charged screen of which it sent a byte.
  pub record KeepsCall (old : Standing CentreRecord) (served : Served L (CallEnd D F)) (new : Standing CentreRecord) : Type 0 where
    pub serves : ServesCall r limits opening shown report_of old served new
    pub marked : AreMarksIn opening log serves.marks
    pub charged : All (HasRecord log) (charges_of serves.call.talks.happened)

  -- so it is of each connection that a port has served
  abbrev pub HasKeptCalls : ℕ → Standing CentreRecord → DoorReport L → Standing CentreRecord → DoorReport L → PortReport D F → Type 0
  HasKeptCalls = HasServed KeepsCall call_failure call_lacked_memory

  -- a centre was served from its opening to its closing, each connection of its doors by such a call
  abbrev pub CentreKept : reports.Ghosts D → ℕ → Type 0 → List (DoorReport L) → List (DoorReport L) → List (PortReport D F)
      → Parts D CentreState CentreRecord → Type 0
  CentreKept d calls Quiet old new met node = NodeServed (HasKeptCalls calls) {F = F} r d limits applied_of Quiet opening old new met
      (Ok node)

module _ {S L D F : Type 0} (r : rules.Ghosts S EditList UdcRequest Record UdcReply) (limits : Limits) (opening : List Record)
    (report_of : L → LineState) (log : List (Entry Record)) where
  -- a session served a connection, and the closed list of the Update Centre has its marks
  pub record KeepsSession (old : Standing Record) (served : Served L (EditEnd D F)) (new : Standing Record) : Type 0 where
    pub serves : ServesSession r limits opening report_of old served new
    pub marked : AreMarksIn opening log serves.marks

  abbrev pub HasKeptSessions : ℕ → Standing Record → DoorReport L → Standing Record → DoorReport L → PortReport D F → Type 0
  HasKeptSessions = HasServed KeepsSession session_failure session_lacked_memory

  -- the Update Centre was served from its opening to its closing, each connection of its doors by such a session
  abbrev pub UpdateKept : reports.Ghosts D → ℕ → Type 0 → List (DoorReport L) → List (DoorReport L) → List (PortReport D F)
      → Parts D EditList Record → Type 0
  UpdateKept d calls Quiet old new met node = NodeServed (HasKeptSessions calls) {F = F} r d limits taken_count Quiet opening old new met
      (Ok node)
