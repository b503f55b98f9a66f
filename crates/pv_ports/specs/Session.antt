-- An editor's session at his port: what comes of each of his lines, at what his pass has seen then, and what he is sent.
use Rattle.std.specs.Prelude.{◌≡◌, ℕ, ◌+◌, Bool, false, ◌||◌, nat_le, List, [], ◌∷◌, ◌++◌, length, Option, Some, None, is_some, if◌then◌else◌, unwrap_or, option_map, Result, Ok, Err, MatchResult}
use Rattle.pv_outside.specs.declared.limits.Limits.{Limits}
use Rattle.pv_node.specs.declared.rules.Rules as rules
use Rattle.pv_node.specs.declared.decision.Told.{Told}
use Rattle.pv_words.specs.Split.{HasNone}
use Rattle.pv_edits.specs.declared.record.Record.{Record}
use Rattle.pv_edits.specs.declared.wish.EditWish.{EditWish}
use Rattle.pv_editor.specs.Replies.{reply_of, closing_reply, responses_reply}
use Rattle.pv_editor.specs.Say.{new_seat, Says}
use Rattle.pv_editor.specs.declared.replies.UdcReplyView.{UdcReplyView}
use Rattle.pv_editor.specs.declared.replies.UdcReplyView.TheVariants.{Refused}
use Rattle.pv_editor.specs.declared.seat.EditorSeat.{EditorSeat}
use Rattle.pv_editor.specs.declared.step.EditStep.{EditStep}
use Rattle.pv_editor.specs.declared.step.EditStep.TheVariants as steps
use Rattle.pv_live.specs.Asking.{HasAsked, HasFailed}
use Rattle.pv_live.specs.Entries.{with_opening}
use Rattle.pv_live.specs.Pass.{Standing}
use Rattle.pv_live.specs.Run.{IsStateOf}
use Rattle.pv_live.specs.declared.fault.LiveFault.{LiveFault}
use Rattle.pv_live.specs.declared.fault.LiveFault.TheVariants as faults
use Rattle.pv_udc.specs.EditList.{EditList, all_places}
use Rattle.pv_udc.specs.declared.reply.UdcReply.{UdcReply}
use Rattle.pv_udc.specs.declared.request.UdcRequest.{UdcRequest}
use Rattle.pv_udc.specs.declared.request.UdcRequest.TheVariants.{Edit}
use Rattle.pv_verdicts.specs.Search.{first_reply}
use Rattle.pv_verdicts.specs.Views.{editor_view}
use Rattle.pv_verdicts.specs.declared.view.TheConstants.{FULL, DISK, MEMORY}
use Rattle.pv_ports.specs.Talk.{PassLooks, PassAsks}
use Rattle.pv_ports.specs.Typing.{text_in_line, ended_line}
use Rattle.pv_ports.specs.declared.edit_end.EditEnd.{EditEnd}
use Rattle.pv_ports.specs.declared.edit_end.EditEnd.TheVariants as ends
use Rattle.pv_ports.specs.declared.session.TheConstants.{MAX_LINES, MAX_BYTES}
use Rattle.pv_ports.specs.declared.typing.TheConstants.{NEWLINE}
use Rattle.pv_ports.specs.declared.verdict.Reply.{Reply}

-- ---- what comes of an ask

-- why an ask has no answer, whatever the failure of the disk is
abbrev pub AskFault : Type 0
AskFault = LiveFault (Unit {0}) (Unit {0})

abbrev pub ask_fault : {D F : Type 0} → LiveFault D F → AskFault
ask_fault (faults.Memory stored) = faults.Memory stored
ask_fault (faults.Disk failure) = faults.Disk tt
ask_fault (faults.Full count) = faults.Full count

-- how a session ended, whatever the failure of the disk is
abbrev pub SessionEnd : Type 0
SessionEnd = EditEnd (Unit {0}) (Unit {0})

abbrev pub session_end : {D F : Type 0} → EditEnd D F → SessionEnd
session_end ends.Closed = ends.Closed
session_end ends.Hung = ends.Hung
session_end ends.Spent = ends.Spent
session_end ends.ReadFault = ends.ReadFault
session_end ends.WriteFault = ends.WriteFault
session_end (ends.DiskFault failure) = ends.DiskFault tt
session_end (ends.Memory stored) = ends.Memory stored

-- what comes of an ask
abbrev pub AskResult : Type 0
AskResult = Result (Told UdcReply) AskFault

-- what it reads to an editor
abbrev pub view_in : AskResult → UdcReplyView
view_in (Ok told) = editor_view told.reply
view_in (Err (faults.Memory stored)) = Refused MEMORY 0
view_in (Err (faults.Disk failure)) = Refused DISK 0
view_in (Err (faults.Full count)) = Refused FULL count

-- the place in its answer, or else this
abbrev pub place_or : AskResult → ℕ → ℕ
place_or (Ok told) count = unwrap_or told.number count
place_or (Err fault) count = count

-- the end of the session that it brings: a full Update Centre brings none
abbrev pub end_by : AskResult → Option SessionEnd
end_by (Ok told) = None
end_by (Err (faults.Memory stored)) = Some (ends.Memory stored)
end_by (Err (faults.Disk failure)) = Some (ends.DiskFault tt)
end_by (Err (faults.Full count)) = None

-- ---- what comes of a line

-- What comes of a line: it is answered at once; or it ends the session; or it asks for an edit, and this comes of that.
pub data Exchange : Type 0 where
  Said : List ℕ → List ℕ → Exchange
  Left : List ℕ → Exchange
  Judged : List ℕ → AskResult → Exchange

-- the line
abbrev pub exchange_line : Exchange → List ℕ
exchange_line (Said line reply) = line
exchange_line (Left line) = line
exchange_line (Judged line verdict) = line

-- the reply to it
abbrev pub exchange_reply : Exchange → List ℕ
exchange_reply (Said line reply) = reply
exchange_reply (Left line) = closing_reply
exchange_reply (Judged line verdict) = reply_of (view_in verdict)

-- its mark: the place of the record that is stored for it, or else how many records have been seen
abbrev pub exchange_mark : Exchange → ℕ → ℕ
exchange_mark (Said line reply) count = count
exchange_mark (Left line) count = count
exchange_mark (Judged line verdict) count = place_or verdict count

-- the end of the session that it brings, if it brings one
abbrev pub exchange_end : Exchange → Option SessionEnd
exchange_end (Said line reply) = None
exchange_end (Left line) = Some ends.Closed
exchange_end (Judged line verdict) = end_by verdict

-- that of the last one, of those that are given the last first
abbrev pub last_end : List Exchange → Option SessionEnd
last_end [] = None
last_end (exchange ∷ earlier) = exchange_end exchange

-- how many records an ask stored for its pass, by its answer
abbrev pub stored_by_ask : AskResult → ℕ
stored_by_ask (Ok told) = if is_some told.number then 1 else 0
stored_by_ask (Err (faults.Memory stored)) = if is_some stored then 1 else 0
stored_by_ask (Err (faults.Disk failure)) = 0
stored_by_ask (Err (faults.Full count)) = 0

-- how many asks failed on the disk, of this one
abbrev pub disk_faults_by_ask : AskResult → ℕ
disk_faults_by_ask (Ok told) = 0
disk_faults_by_ask (Err (faults.Memory stored)) = 0
disk_faults_by_ask (Err (faults.Disk failure)) = 1
disk_faults_by_ask (Err (faults.Full count)) = 0

-- a count over the asks of a session
abbrev pub ask_count : (AskResult → ℕ) → List Exchange → ℕ
ask_count count [] = 0
ask_count count (Said line reply ∷ earlier) = ask_count count earlier
ask_count count (Left line ∷ earlier) = ask_count count earlier
ask_count count (Judged line verdict ∷ earlier) = ask_count count earlier + count verdict

-- the bytes of the lines, all replies but the last, the last reply, and the marks
pub record Traffic : Type 0 where
  pub bytes : List ℕ
  pub sent : List ℕ
  pub reply : List ℕ
  pub marks : List ℕ

-- before the first line
abbrev pub no_traffic : Traffic
no_traffic = record { bytes = []; sent = []; reply = []; marks = [] }

-- after one line more, when this many records have been seen
abbrev pub traffic_after : Exchange → ℕ → Traffic → Traffic
traffic_after exchange count before = record {
  bytes = before.bytes ++ ended_line (exchange_line exchange);
  sent = before.sent ++ before.reply;
  reply = ended_line (exchange_reply exchange);
  marks = before.marks ++ exchange_mark exchange count ∷ [];
}

-- a session has had as many lines or bytes as it may have
abbrev pub is_session_over : ℕ → ℕ → Bool
is_session_over lines bytes = nat_le MAX_LINES lines || nat_le MAX_BYTES bytes

-- ---- a line at what a pass has seen

-- the step of a seat, with a search for responses answered from these records
abbrev pub answered_step : List Record → EditStep → EditStep
answered_step records (steps.Say text) = steps.Say text
answered_step records (steps.Ask editor q wish) = steps.Ask editor q wish
answered_step records (steps.Responses editor from) = steps.Say (responses_reply (first_reply records editor from))
answered_step records steps.Close = steps.Close

-- at these records the seat takes the text, and this is its step
pub record AnswersAt (records : List Record) (seat : EditorSeat) (text : List ℕ) (after : EditorSeat) (step : EditStep) : Type 0 where
  pub said : EditStep
  pub says : Says seat text records (all_places records) after said
  pub step_is : step ≡ answered_step records said

module _ {S : Type 0} (r : rules.Ghosts S EditList UdcRequest Record UdcReply) (limits : Limits) (opening : List Record) where
  -- a line is taken by one look, at all records that the pass has seen then
  pub record TakesLine (old : Standing Record) (seat : EditorSeat) (text : List ℕ) (new : Standing Record) (after : EditorSeat)
      (step : EditStep) : Type 0 where
    pub state : EditList
    pub stands : IsStateOf r limits state (with_opening opening new.seen)
    pub answers : AnswersAt state.records seat text after step
    pub looks : PassLooks old new

  -- the Update Centre is asked for an edit, and this comes of it
  pub record IsJudged (editor q : ℕ) (wish : EditWish) (old : Standing Record) (verdict : AskResult) (new : Standing Record) : Type 0 where
    pub asks : PassAsks old new
    pub comes : MatchResult verdict (λ told. HasAsked r limits opening (Edit editor q wish) old new told × (new.failed ≡ old.failed))
        (λ fault. HasFailed r limits opening (Edit editor q wish) old new fault)

  -- a line asks for an edit, and this comes of it
  pub record AsksFor (old : Standing Record) (seat : EditorSeat) (line : List ℕ) (verdict : AskResult) (new : Standing Record)
      (after : EditorSeat) : Type 0 where
    pub looked : Standing Record
    pub editor : ℕ
    pub q : ℕ
    pub wish : EditWish
    pub takes : TakesLine old seat (text_in_line line) looked after (steps.Ask editor q wish)
    pub judged : IsJudged editor q wish looked verdict new

  -- what comes of a line, at what the pass has seen
  abbrev pub TakesExchange : Standing Record → EditorSeat → Exchange → Standing Record → EditorSeat → Type 0
  TakesExchange old seat (Said line reply) new after = TakesLine old seat (text_in_line line) new after (steps.Say reply)
  TakesExchange old seat (Left line) new after = TakesLine old seat (text_in_line line) new after steps.Close
  TakesExchange old seat (Judged line verdict) new after = AsksFor old seat line verdict new after

  -- what comes of a line, as a reply, its mark, and the end of the session, if it brings one
  pub record Exchanges {D F : Type 0} (old : Standing Record) (seat : EditorSeat) (line : List ℕ) (new : Standing Record)
      (after : EditorSeat) (reply : Reply D F) : Type 0 where
    pub exchange : Exchange
    pub line_is : exchange_line exchange ≡ line
    pub happens : TakesExchange old seat exchange new after
    pub text : reply.text ≡ exchange_reply exchange
    pub mark : reply.mark ≡ exchange_mark exchange (length opening + length new.seen)
    pub end : option_map session_end reply.end ≡ exchange_end exchange

  -- what comes of an ask, as its reply, its mark, and the end of the session
  pub record AnswersEdit {D F : Type 0} (editor q : ℕ) (wish : EditWish) (old new : Standing Record) (reply : Reply D F) : Type 0 where
    pub verdict : AskResult
    pub judged : IsJudged editor q wish old verdict new
    pub text : reply.text ≡ reply_of (view_in verdict)
    pub mark : reply.mark ≡ place_or verdict (length opening + length new.seen)
    pub end : option_map session_end reply.end ≡ end_by verdict

  -- A whole session: what came of its lines, the last first. Each has no end of a line in it, and was taken while the session went on.
  abbrev pub IsSession : List Exchange → Standing Record → Standing Record → EditorSeat → Traffic → Type 0
  IsSession [] start pass seat said = (pass ≡ start) × (seat ≡ new_seat) × (said ≡ no_traffic)
  IsSession (exchange ∷ earlier) start pass seat said =
      (old : Standing Record) × (before : EditorSeat) × (first : Traffic) × IsSession earlier start old before first
      × (last_end earlier ≡ None) × HasNone NEWLINE (exchange_line exchange)
      × (is_session_over (length first.marks) (length (first.bytes ++ exchange_line exchange)) ≡ false)
      × TakesExchange old before exchange pass seat
      × (said ≡ traffic_after exchange (length opening + length pass.seen) first)
