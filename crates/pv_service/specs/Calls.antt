-- Callers' connections at a door: each is served by a call.
use Rattle.std.specs.Prelude.{ℕ, Bool, true, false, List, Option, None, Some}
use Rattle.pv_outside.specs.declared.limits.Limits.{Limits}
use Rattle.pv_outside.specs.Line.{IsUnused}
use Rattle.pv_node.specs.declared.rules.Rules as rules
use Rattle.pv_irc.specs.History.{CentreState}
use Rattle.pv_irc.specs.declared.record.CentreRecord.{CentreRecord}
use Rattle.pv_irc.specs.declared.reply.IrcReply.{IrcReply}
use Rattle.pv_irc.specs.declared.request.IrcRequest.{IrcRequest}
use Rattle.pv_live.specs.Pass.{Standing}
use Rattle.pv_ports.specs.Ends.{LineState, IsServedCall}
use Rattle.pv_ports.specs.declared.end.CallEnd.{CallEnd}
use Rattle.pv_ports.specs.declared.end.CallEnd.TheVariants.{DiskFault, Memory}
use Rattle.pv_service.specs.Doors.{DoorReport}
use Rattle.pv_service.specs.Serving.{Served, ServesNext, HasServed}
use Rattle.pv_service.specs.declared.port_report.PortReport.{PortReport}

-- the failure of the disk that ended a call, if one did
abbrev pub call_failure : {D F : Type 0} → CallEnd D F → Option F
call_failure (DiskFault failure) = Some failure
call_failure _ = None

-- whether a call ended since no memory was found
abbrev pub call_lacked_memory : {D F : Type 0} → CallEnd D F → Bool
call_lacked_memory (Memory stored) = true
call_lacked_memory _ = false

module _ {S L D F : Type 0} (r : rules.Ghosts S CentreState IrcRequest CentreRecord IrcReply) (limits : Limits)
    (opening : List CentreRecord) (shown : Option ℕ) (report_of : L → LineState) where
  -- a connection came in unused, and a call served it, from the dial to its end
  pub record ServesCall (old : Standing CentreRecord) (served : Served L (CallEnd D F)) (new : Standing CentreRecord) : Type 0 where
    pub accepted : L
    pub unused : IsUnused (report_of accepted).taken (report_of accepted).written (report_of accepted).ended
    pub marks : List ℕ
    pub call : IsServedCall r limits opening shown {D = D} {F = F} old (report_of accepted) new marks (report_of served.line) served.end

  -- the next caller was served
  abbrev pub ServesNextCall : Standing CentreRecord → DoorReport L → Standing CentreRecord → DoorReport L → CallEnd D F → Type 0
  ServesNextCall = ServesNext ServesCall

  -- callers were served until there were this many, or there was a fault
  abbrev pub HasServedCalls : ℕ → Standing CentreRecord → DoorReport L → Standing CentreRecord → DoorReport L → PortReport D F → Type 0
  HasServedCalls = HasServed ServesCall call_failure call_lacked_memory
