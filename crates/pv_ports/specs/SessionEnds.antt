-- A session in progress, and how it ends.
use Rattle.std.specs.Prelude.{◌≡◌, ◌⊎◌, ℕ, ◌≤◌, Bool, true, false, List, [], ◌++◌, length, take, Option, Some, None}
use Rattle.std.specs.Io.KnownBytes.{Appends}
use Rattle.pv_outside.specs.declared.limits.Limits.{Limits}
use Rattle.pv_outside.specs.Counts.{Rose}
use Rattle.pv_node.specs.declared.rules.Rules as rules
use Rattle.pv_words.specs.Split.{HasNone}
use Rattle.pv_edits.specs.declared.record.Record.{Record}
use Rattle.pv_editor.specs.declared.seat.EditorSeat.{EditorSeat}
use Rattle.pv_live.specs.Pass.{Standing}
use Rattle.pv_udc.specs.EditList.{EditList}
use Rattle.pv_udc.specs.declared.reply.UdcReply.{UdcReply}
use Rattle.pv_udc.specs.declared.request.UdcRequest.{UdcRequest}
use Rattle.pv_ports.specs.Ends.{LineState}
use Rattle.pv_ports.specs.Session.{SessionEnd, session_end, Exchange, Traffic, last_end, is_session_over, IsSession}
use Rattle.pv_ports.specs.declared.edit_end.EditEnd.{EditEnd}
use Rattle.pv_ports.specs.declared.edit_end.EditEnd.TheVariants as ends
use Rattle.pv_ports.specs.declared.typing.TheConstants.{NEWLINE, KEPT}

-- all replies were sent
abbrev pub AllSent : LineState → LineState → Traffic → Type 0
AllSent first line said = Appends first.written line.written (said.sent ++ said.reply)

-- all replies were sent but the last, and of that a first part: a write failed
pub record IsCutOff (first line : LineState) (said : Traffic) : Type 0 where
  pub count : ℕ
  pub written : Appends first.written line.written (said.sent ++ take count said.reply)
  pub rose : Rose first.write_faults line.write_faults

-- What was sent, by how the session ended. The reply to a fault of the Update Centre may be cut off.
abbrev pub IsSent : {D F : Type 0} → EditEnd D F → LineState → LineState → Traffic → Type 0
IsSent ends.WriteFault first line said = IsCutOff first line said
IsSent (ends.DiskFault failure) first line said = AllSent first line said ⊎ IsCutOff first line said
IsSent (ends.Memory stored) first line said = AllSent first line said ⊎ IsCutOff first line said
IsSent _ first line said = AllSent first line said

-- an end that a failed write takes the place of: none, or the editor's own
abbrev pub GivesWay : Option SessionEnd → Type 0
GivesWay None = Unit {0}
GivesWay (Some ends.Closed) = Unit {0}
GivesWay _ = ⊥

-- the end of a session whose last write failed
abbrev pub end_if_cut : {D F : Type 0} → Option (EditEnd D F) → EditEnd D F
end_if_cut None = ends.WriteFault
end_if_cut (Some ends.Closed) = ends.WriteFault
end_if_cut (Some end) = end

-- Why it ended, with these bytes read and not taken: at a hang-up and at a read that fails there are none.
abbrev pub EndsAs : {D F : Type 0} → EditEnd D F → List Exchange → Bool → List ℕ → LineState → LineState → Type 0
EndsAs ends.Hung happened spent rest first line = (last_end happened ≡ None) × (spent ≡ false) × (rest ≡ []) × (line.ended ≡ true)
EndsAs ends.Spent happened spent rest first line = (last_end happened ≡ None) × (spent ≡ true)
EndsAs ends.ReadFault happened spent rest first line =
    (last_end happened ≡ None) × (spent ≡ false) × (rest ≡ []) × Rose first.read_faults line.read_faults
EndsAs ends.WriteFault happened spent rest first line = GivesWay (last_end happened)
EndsAs end happened spent rest first line = last_end happened ≡ Some (session_end end)

module _ {S : Type 0} (r : rules.Ghosts S EditList UdcRequest Record UdcReply) (limits : Limits) (opening : List Record) where
  -- A session in progress, since its pass was `start` and its connection `first`. These bytes were read and are still to be taken. Of the
  -- line that has no end yet these are kept, and this many bytes were taken in all.
  pub record InSession (start : Standing Record) (first : LineState) (pass : Standing Record) (seat : EditorSeat) (marks kept : List ℕ)
      (count : ℕ) (rest : List ℕ) (line : LineState) : Type 0 where
    pub happened : List Exchange
    pub said : Traffic
    pub unended : List ℕ
    pub session : IsSession r limits opening happened start pass seat said
    pub goes_on : last_end happened ≡ None
    pub marked : marks ≡ said.marks
    pub kept_is : kept ≡ take KEPT unended
    pub one_line : HasNone NEWLINE unended
    pub counted : count ≡ length (said.bytes ++ unended)
    pub bytes : Appends first.taken line.taken ((said.bytes ++ unended) ++ rest)
    pub sent : AllSent first line said
    pub reads : first.read_faults ≤ line.read_faults
    pub writes : first.write_faults ≤ line.write_faults

  -- A session that ended so: what happened in it, the line that had no end, and which bytes were read and not taken.
  pub record IsServedSession {D F : Type 0} (start : Standing Record) (first : LineState) (new : Standing Record) (marks : List ℕ)
      (line : LineState) (end : EditEnd D F) : Type 0 where
    pub happened : List Exchange
    pub seat : EditorSeat
    pub said : Traffic
    pub unended : List ℕ
    pub rest : List ℕ
    pub session : IsSession r limits opening happened start new seat said
    pub marked : marks ≡ said.marks
    pub one_line : HasNone NEWLINE unended
    pub bytes : Appends first.taken line.taken ((said.bytes ++ unended) ++ rest)
    pub sent : IsSent end first line said
    pub ends : EndsAs end happened (is_session_over (length said.marks) (length (said.bytes ++ unended))) rest first line
