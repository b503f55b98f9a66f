-- Editors' connections at a door: each is served by a session.
use Rattle.std.specs.Prelude.{ℕ, Bool, true, false, List, Option, None, Some}
use Rattle.pv_outside.specs.declared.limits.Limits.{Limits}
use Rattle.pv_outside.specs.Line.{IsUnused}
use Rattle.pv_node.specs.declared.rules.Rules as rules
use Rattle.pv_edits.specs.declared.record.Record.{Record}
use Rattle.pv_live.specs.Pass.{Standing}
use Rattle.pv_udc.specs.EditList.{EditList}
use Rattle.pv_udc.specs.declared.reply.UdcReply.{UdcReply}
use Rattle.pv_udc.specs.declared.request.UdcRequest.{UdcRequest}
use Rattle.pv_ports.specs.Ends.{LineState}
use Rattle.pv_ports.specs.SessionEnds.{IsServedSession}
use Rattle.pv_ports.specs.declared.edit_end.EditEnd.{EditEnd}
use Rattle.pv_ports.specs.declared.edit_end.EditEnd.TheVariants.{DiskFault, Memory}
use Rattle.pv_service.specs.Doors.{DoorReport}
use Rattle.pv_service.specs.Serving.{Served, ServesNext, HasServed}
use Rattle.pv_service.specs.declared.port_report.PortReport.{PortReport}

-- the failure of the disk that ended a session, if one did
abbrev pub session_failure : {D F : Type 0} → EditEnd D F → Option F
session_failure (DiskFault failure) = Some failure
session_failure _ = None

-- whether a session ended since no memory was found
abbrev pub session_lacked_memory : {D F : Type 0} → EditEnd D F → Bool
session_lacked_memory (Memory stored) = true
session_lacked_memory _ = false

module _ {S L D F : Type 0} (r : rules.Ghosts S EditList UdcRequest Record UdcReply) (limits : Limits) (opening : List Record)
    (report_of : L → LineState) where
  -- a connection came in unused, and a session served it, from its first byte to its end
  pub record ServesSession (old : Standing Record) (served : Served L (EditEnd D F)) (new : Standing Record) : Type 0 where
    pub accepted : L
    pub unused : IsUnused (report_of accepted).taken (report_of accepted).written (report_of accepted).ended
    pub marks : List ℕ
    pub session : IsServedSession r limits opening {D = D} {F = F} old (report_of accepted) new marks (report_of served.line) served.end

  -- the next editor was served
  abbrev pub ServesNextSession : Standing Record → DoorReport L → Standing Record → DoorReport L → EditEnd D F → Type 0
  ServesNextSession = ServesNext ServesSession

  -- editors were served until there were this many, or there was a fault
  abbrev pub HasServedSessions : ℕ → Standing Record → DoorReport L → Standing Record → DoorReport L → PortReport D F → Type 0
  HasServedSessions = HasServed ServesSession session_failure session_lacked_memory
