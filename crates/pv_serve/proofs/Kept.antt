-- What the closed list of a node keeps of what its ports have served.
use Rattle.std.proofs.Common.{◌≡◌, ℕ, ◌+◌, ◌≤◌, Bool, true, false, List, [], ◌∷◌, ◌++◌, length, map, Option, Some, None, Ok, Err, ap, sym, ◌∙◌, subst, arith, append_assoc, length-append, if◌then◌else◌}
use Rattle.std.specs.Prelude.{MatchOption, unwrap_or, not, ◌==◌, ◌&&◌, nat_lt, option_to_list}
use Rattle.std.proofs.lemmas.List.{length-map}
use mathlib.Core.List.{IsPrefix}
use Rattle.pv_history.proofs.CallerLemmas.{prefix_self, prefix_trans, prefix_length}
use Rattle.pv_outside.specs.declared.limits.Limits.{Limits}
use Rattle.pv_outside.specs.declared.reports.Reports as reports
use Rattle.pv_node.specs.declared.rules.Rules as rules
use Rattle.pv_node.specs.Parts.{Parts}
use Rattle.pv_charge.specs.Line.{Charge}
use Rattle.pv_edits.specs.declared.record.Record.{Record}
use Rattle.pv_editor.specs.declared.seat.EditorSeat.{EditorSeat}
use Rattle.pv_irc.specs.History.{CentreState, applied_of}
use Rattle.pv_irc.specs.declared.record.CentreRecord.{CentreRecord}
use Rattle.pv_irc.specs.declared.reply.IrcReply.{IrcReply}
use Rattle.pv_irc.specs.declared.request.IrcRequest.{IrcRequest}
use Rattle.pv_live.specs.Asking.{HasAnswered, HasStoredFor}
use Rattle.pv_live.specs.Entries.{with_opening, records_in}
use Rattle.pv_live.specs.Pass.{Standing, EachHasSeenPrefix}
use Rattle.pv_live.specs.declared.entry.Entry.{Entry}
use Rattle.pv_live.specs.declared.fault.LiveFault.TheVariants as faults
use Rattle.pv_ports.specs.Ends.{LineState, EndsAs}
use Rattle.pv_ports.specs.Session.{Exchange, Said, Left, Judged, Traffic, TakesExchange, IsSession, exchange_mark}
use Rattle.pv_ports.specs.Talk.{Happening, KeyTaken, WishAnswered, TurnedAway, HasRecord, IsTalk, ComesAbout, Talked, marks_after}
use Rattle.pv_ports.specs.declared.edit_end.EditEnd.{EditEnd}
use Rattle.pv_ports.specs.declared.end.CallEnd.{CallEnd}
use Rattle.pv_ports.specs.declared.end.CallEnd.TheVariants as ends
use Rattle.pv_ports.specs.declared.port.TheConstants.{MAX_MARKS}
use Rattle.pv_service.specs.Calls.{ServesCall, call_failure, call_lacked_memory}
use Rattle.pv_service.specs.Chain.{IsChain}
use Rattle.pv_service.specs.Doors.{DoorReport}
use Rattle.pv_service.specs.Serving.{Served, HasServed}
use Rattle.pv_service.specs.Sessions.{ServesSession, session_failure, session_lacked_memory}
use Rattle.pv_service.specs.declared.port_report.PortReport.{PortReport}
use Rattle.pv_session.specs.State.{CallState}
use Rattle.pv_session.specs.declared.step.Step.{Step}
use Rattle.pv_udc.specs.EditList.{EditList}
use Rattle.pv_udc.specs.declared.reply.UdcReply.{UdcReply}
use Rattle.pv_udc.specs.declared.request.UdcRequest.{UdcRequest}
use Rattle.pv_centres.specs.Carried.{taken_count}
use Rattle.pv_centres.specs.Closed.{disk_left, is_seen_stored}
use Rattle.pv_centres.specs.Served.{CentreServed, ClosedNode, EachServes, NodeServed, UpdateServed}
use Rattle.pv_serve.specs.Left.{HaveServed}
use Rattle.pv_serve.proofs.Ended.{ClosesSo}
use Rattle.pv_serve.proofs.Leaving.{LeavesSo, run_prefix, with_group, with_hand}
use Rattle.pv_serve.specs.Kept.{RiseWithin, AreMarksIn, HasKeptCalls, HasKeptSessions, KeepsCall, KeepsSession, CentreKept, StoresChargesFirst, UpdateKept}

-- ---- marks

-- marks that rise to here rise to any greater length
rise_on : (least most more : ℕ) (marks : List ℕ) → RiseWithin least most marks → most ≤ more → RiseWithin least more marks
rise_on least most more [] rise on = omega (arith, rise, on)
rise_on least most more (mark ∷ marks) rise on = (rise.0, rise_on mark most more marks rise.1 on)

-- and from any lesser one
rise_from : (less least most : ℕ) (marks : List ℕ) → RiseWithin least most marks → less ≤ least → RiseWithin less most marks
rise_from less least most [] rise from = omega (arith, rise, from)
rise_from less least most (mark ∷ marks) rise from = (omega (arith, rise.0, from), rise.1)

-- one mark more
rise_to : (least most mark more : ℕ) (marks : List ℕ) → RiseWithin least most marks → most ≤ mark → mark ≤ more
    → RiseWithin least more (marks ++ mark ∷ [])
rise_to least most mark more [] rise past within = (omega (arith, rise, past), omega (arith, within))
rise_to least most mark more (first ∷ marks) rise past within = (rise.0, rise_to first most mark more marks rise.1 past within)

-- one mark more, if it is noted
rise_if : (noted : Bool) (least most mark : ℕ) (marks : List ℕ) → RiseWithin least most marks → most ≤ mark
    → RiseWithin least mark (if noted then marks ++ mark ∷ [] else marks)
rise_if true least most mark marks rise past = rise_to least most mark mark marks rise past (omega arith)
rise_if false least most mark marks rise past = rise_on least most mark marks rise past

-- the length of all records
all_length : {T : Type 0} (opening : List T) (log : List (Entry T)) → length (with_opening opening log) ≡ length opening + length log
all_length opening log = omega (arith, length-append opening (records_in log), length-map log (λ (e : Entry _). e.rec))

-- marks that rise from what a pass had seen to what it has seen lie in the list, of which that is a prefix
marks_in : {T : Type 0} (opening : List T) (old new log : List (Entry T)) (marks : List ℕ) → IsPrefix new log
    → RiseWithin (length opening + length old) (length opening + length new) marks → AreMarksIn opening log marks
marks_in opening old new log marks prefix rise =
    rise_from (length opening) (length opening + length old) (length (with_opening opening log)) marks
    (rise_on (length opening + length old) (length opening + length new) (length (with_opening opening log)) marks rise
    (omega (arith, prefix_length new log prefix, all_length opening log)))
    (omega arith)

-- ---- calls

module _ {S : Type 0} (r : rules.Ghosts S CentreState IrcRequest CentreRecord IrcReply) (limits : Limits) (opening : List CentreRecord)
    (shown : Option ℕ) where
  -- what a pass has seen is a prefix of what it has seen after one thing more
  saw : (happening : Happening) (old pass : Standing CentreRecord) (call after : CallState) (step : Step)
      → ComesAbout r limits opening shown old call happening pass after step → IsPrefix old.seen pass.seen
  saw (KeyTaken byte moment) old pass call after step is = is.1.looks.prefix
  saw (WishAnswered wish told) old pass call after step is = is.asks.prefix
  saw (TurnedAway count) old pass call after step is = is.asks.prefix

  saw_all : (happened : List Happening) (start pass : Standing CentreRecord) (call : CallState) (step : Step) (talked : Talked)
      → IsTalk r limits opening shown happened start pass call step talked → IsPrefix start.seen pass.seen
  saw_all [] start pass call step talked is =
      subst (λ (p : Standing CentreRecord). IsPrefix start.seen p.seen) (sym is.0) (prefix_self start.seen)
  saw_all (happening ∷ earlier) start pass call step talked is =
      prefix_trans start.seen is.0.seen pass.seen (saw_all earlier start is.0 is.1 is.2 is.3 is.4)
      (saw happening is.0 pass is.1 call step is.5)

  -- the marks of a call rise with what its pass has seen
  rise_once : (happening : Happening) (before after least most mark : ℕ) (marks : List ℕ) → RiseWithin least most marks → most ≤ mark
      → RiseWithin least mark (marks_after happening before after mark marks)
  rise_once (KeyTaken byte moment) before after least most mark marks rise past =
      rise_if (not (before == after) && nat_lt (length marks) MAX_MARKS) least most mark marks rise past
  rise_once (WishAnswered wish told) before after least most mark marks rise past = rise_on least most mark marks rise past
  rise_once (TurnedAway count) before after least most mark marks rise past = rise_on least most mark marks rise past

  rise_all : (happened : List Happening) (start pass : Standing CentreRecord) (call : CallState) (step : Step) (talked : Talked)
      → IsTalk r limits opening shown happened start pass call step talked
      → RiseWithin (length opening + length start.seen) (length opening + length pass.seen) talked.marks
  rise_all [] start pass call step talked is =
      rw (is.0, is.3) (omega arith)
  rise_all (happening ∷ earlier) start pass call step talked is =
      let longer = prefix_length is.0.seen pass.seen (saw happening is.0 pass is.1 call step is.5) in
      rw is.6
      (rise_once happening is.1.entries call.entries (length opening + length start.seen) (length opening + length is.0.seen)
      (length opening + length pass.seen) is.3.marks (rise_all earlier start is.0 is.1 is.2 is.3 is.4) (omega (arith, longer)))

  -- what a pass has seen when a call ends
  stays : (pass new : Standing CentreRecord) → new ≡ pass → IsPrefix pass.seen new.seen
  stays pass new same = subst (λ (p : Standing CentreRecord). IsPrefix pass.seen p.seen) (sym same) (prefix_self pass.seen)

  module _ {D F : Type 0} (happened : List Happening) (pass new : Standing CentreRecord) (call : CallState) (last : Step) (rest : List ℕ)
      (first line : LineState) where
    saw_last : (end : CallEnd D F) → EndsAs r limits opening shown end happened pass call last new rest first line
        → IsPrefix pass.seen new.seen
    saw_last ends.Finished is = stays pass new is.0
    saw_last ends.Hung is = stays pass new is.0
    saw_last ends.Refused is = stays pass new is.0
    saw_last ends.Spent is = stays pass new is.0
    saw_last ends.ReadFault is = stays pass new is.0
    saw_last ends.WriteFault is = stays pass new is.0
    saw_last (ends.DiskFault failure) is = is.asks.prefix
    saw_last (ends.Full count) is = stays pass new is.0
    saw_last (ends.Memory stored) is = is.asks.prefix

-- what was seen of a charge stays, as more is seen
record_on : (old new : List (Entry CentreRecord)) (charge : Charge) → IsPrefix old new → HasRecord old charge → HasRecord new charge
record_on old new charge prefix is = record {
  before = is.before;
  entry = is.entry;
  after = is.after ++ prefix.0;
  split = sym prefix.1 ∙ (ap (λ (l : List (Entry CentreRecord)). l ++ prefix.0) is.split
      ∙ append_assoc is.before (is.entry ∷ is.after) prefix.0);
  is = is.is;
}

module _ {S L D F : Type 0} (r : rules.Ghosts S CentreState IrcRequest CentreRecord IrcReply) (charges : StoresChargesFirst r) (limits : Limits)
    (opening : List CentreRecord) (shown : Option ℕ) (report_of : L → LineState) (log : List (Entry CentreRecord)) where
  -- the closed list keeps a call whose pass has seen a prefix of it, and it had seen one before
  keeps_call : (old : Standing CentreRecord) (served : Served L (CallEnd D F)) (new : Standing CentreRecord)
      → ServesCall r limits opening shown report_of old served new → IsPrefix new.seen log
      → IsPrefix old.seen log × KeepsCall r limits opening shown report_of log old served new
  keeps_call old served new serves prefix =
      let call = serves.call in
      let talk = call.talks.talk in
      let here : IsPrefix call.pass.seen log = prefix_trans call.pass.seen new.seen log (saw_last r limits opening shown
      call.talks.happened call.pass new call.call call.last call.rest (report_of serves.accepted) (report_of served.line) served.end call.ends)
      prefix in (
        prefix_trans old.seen call.pass.seen log
            (saw_all r limits opening shown call.talks.happened old call.pass call.call call.last call.talked talk) here,
        record {
          serves = serves;
          marked = subst (AreMarksIn opening log) (sym call.marked) (marks_in opening old.seen call.pass.seen log call.talked.marks here
              (rise_all r limits opening shown call.talks.happened old call.pass call.call call.last call.talked talk));
          charged = λ k other below. record_on call.pass.seen log _ here
              (charges limits opening shown call.talks.happened old call.pass call.call call.last call.talked talk k other below);
        },
      )

-- ---- sessions

module _ {S : Type 0} (r : rules.Ghosts S EditList UdcRequest Record UdcReply) (limits : Limits) (opening : List Record) where
  -- a pass has seen more, and this mark lies between what it had seen and what it has seen
  record MarksSo (old new : Standing Record) (mark : ℕ) : Type 0 where
    prefix : IsPrefix old.seen new.seen
    past : length opening + length old.seen ≤ mark
    within : mark ≤ length opening + length new.seen

  -- with the mark of what has been seen
  marks_all : (old new : Standing Record) → IsPrefix old.seen new.seen → MarksSo old new (length opening + length new.seen)
  marks_all old new prefix = record {
    prefix = prefix;
    past = omega (arith, prefix_length old.seen new.seen prefix);
    within = omega arith;
  }

  -- with that of a record that was stored
  marks_told : (number : Option ℕ) (request : UdcRequest) (old looked new : Standing Record) (reply : UdcReply)
      → IsPrefix old.seen looked.seen → IsPrefix looked.seen new.seen
      → MatchOption number (HasAnswered r limits opening request looked new reply) (HasStoredFor r limits opening request looked new reply)
      → MarksSo old new (unwrap_or number (length opening + length new.seen))
  marks_told None request old looked new reply one other asked =
      marks_all old new (prefix_trans old.seen looked.seen new.seen one other)
  marks_told (Some place) request old looked new reply one other asked =
      let stored = asked.stored in record {
        prefix = prefix_trans old.seen looked.seen new.seen one other;
        past = omega (arith, stored.counted, prefix_length old.seen looked.seen one, prefix_length looked.seen asked.before stored.known);
        within = omega (
          arith,
          stored.counted,
          ap (λ (l : List (Entry Record)). length l) stored.last,
          length-append asked.before (asked.entry ∷ []),
        );
      }

  -- the mark of what comes of a line
  marks_so : (exchange : Exchange) (old new : Standing Record) (seat after : EditorSeat)
      → TakesExchange r limits opening old seat exchange new after
      → MarksSo old new (exchange_mark exchange (length opening + length new.seen))
  marks_so (Said line reply) old new seat after is = marks_all old new is.looks.prefix
  marks_so (Left line) old new seat after is = marks_all old new is.looks.prefix
  marks_so (Judged line (Ok told)) old new seat after is =
      marks_told told.number _ old is.looked new told.reply is.takes.looks.prefix is.judged.asks.prefix is.judged.comes.0
  marks_so (Judged line (Err fault)) old new seat after is =
      marks_all old new (prefix_trans old.seen is.looked.seen new.seen is.takes.looks.prefix is.judged.asks.prefix)

  -- those of a session rise
  marks_rise : (happened : List Exchange) (start pass : Standing Record) (seat : EditorSeat) (said : Traffic)
      → IsSession r limits opening happened start pass seat said
      → IsPrefix start.seen pass.seen
      × RiseWithin (length opening + length start.seen) (length opening + length pass.seen) said.marks
  marks_rise [] start pass seat said is = rw (is.0, is.2) (prefix_self start.seen, omega arith)
  marks_rise (exchange ∷ earlier) start pass seat said is =
      let before = marks_rise earlier start is.0 is.1 is.2 is.3 in
      let now = marks_so exchange is.0 pass is.1 seat is.7 in
      rw is.8 (
        prefix_trans start.seen is.0.seen pass.seen before.0 now.prefix,
        rise_to (length opening + length start.seen) (length opening + length is.0.seen)
            (exchange_mark exchange (length opening + length pass.seen)) (length opening + length pass.seen) is.2.marks before.1 now.past now.within,
      )

module _ {S L D F : Type 0} (r : rules.Ghosts S EditList UdcRequest Record UdcReply) (limits : Limits) (opening : List Record)
    (report_of : L → LineState) (log : List (Entry Record)) where
  -- so it keeps a session
  keeps_session : (old : Standing Record) (served : Served L (EditEnd D F)) (new : Standing Record)
      → ServesSession r limits opening report_of old served new → IsPrefix new.seen log
      → IsPrefix old.seen log × KeepsSession r limits opening report_of log old served new
  keeps_session old served new serves prefix =
      let session = serves.session in
      let rise = marks_rise r limits opening session.happened old new session.seat session.said session.session in (
        prefix_trans old.seen new.seen log rise.0 prefix,
        record {
          serves = serves;
          marked = subst (AreMarksIn opening log) (sym session.marked) (marks_in opening old.seen new.seen log session.said.marks prefix
              rise.1);
        },
      )

-- ---- all connections of a node

module _ {L E F Rec : Type 0} (Serves : Standing Rec → Served L E → Standing Rec → Type 0)
    (Keeps : List (Entry Rec) → Standing Rec → Served L E → Standing Rec → Type 0) (failure_in : E → Option F) (lacked_memory : E → Bool)
    (keeps : (log : List (Entry Rec)) (old : Standing Rec) (served : Served L E) (new : Standing Rec) → Serves old served new
    → IsPrefix new.seen log → IsPrefix old.seen log × Keeps log old served new) where
  -- each connection of a port is kept
  chain_keeps : (log : List (Entry Rec)) (served : List (Served L E)) (old new : Standing Rec) → IsChain Serves served old new
      → IsPrefix new.seen log → IsChain (Keeps log) served old new
  chain_keeps log [] old new is prefix = is
  chain_keeps log (last ∷ earlier) old new is prefix =
      let kept = keeps log is.0 last new is.2 prefix in
      (is.0, chain_keeps log earlier old is.0 is.1 kept.0, kept.1)

  -- so is each of all ports
  ports_keep : {D : Type 0} (log : List (Entry Rec)) (calls : ℕ) (olds : List (DoorReport L)) (passes : List (Standing Rec))
      (news : List (DoorReport L)) (reports : List (PortReport D F)) (carriers : List (Standing Rec))
      → EachHasSeenPrefix log (passes ++ carriers)
      → EachServes (HasServed Serves failure_in lacked_memory calls) olds passes news reports
      → EachServes (HasServed (Keeps log) failure_in lacked_memory calls) olds passes news reports
  ports_keep log calls [] [] [] [] carriers seen each = tt
  ports_keep log calls (old ∷ olds) (pass ∷ passes) (new ∷ news) (report ∷ reports) carriers seen each =
      let anew = each.0 in
      let served = anew.served in (
        record {
          start = anew.start;
          is_new = anew.is_new;
          served = record {
            served = served.served;
            serves = chain_keeps log served.served anew.start pass served.serves seen.0;
            door = served.door;
            memory_is = served.memory_is;
            ends = served.ends;
          };
        },
        ports_keep log calls olds passes news reports carriers seen.1 each.1,
      )
  ports_keep log calls [] [] [] (report ∷ reports) carriers seen each = absurd each
  ports_keep log calls [] [] (new ∷ news) reports carriers seen each = absurd each
  ports_keep log calls [] (pass ∷ passes) news reports carriers seen each = absurd each
  ports_keep log calls (old ∷ olds) [] news reports carriers seen each = absurd each
  ports_keep log calls (old ∷ olds) (pass ∷ passes) [] reports carriers seen each = absurd each
  ports_keep log calls (old ∷ olds) (pass ∷ passes) (new ∷ news) [] carriers seen each = absurd each

  -- a node that was served and closed keeps in its log what its ports have served
  pub node_keeps : {S State Request Reply D : Type 0} (r : rules.Ghosts S State Request Rec Reply) (d : reports.Ghosts D) (limits : Limits)
      (brought : List Rec → ℕ) (Quiet : Type 0) (calls : ℕ) (olds news : List (DoorReport L)) (reports : List (PortReport D F))
      (opening : List Rec) (node : Parts D State Rec)
      → NodeServed (HasServed Serves failure_in lacked_memory calls) {F = F} r d limits brought Quiet opening olds news reports (Ok node)
      → ClosesSo r d limits (λ log closed. NodeServed (HasServed (Keeps log) failure_in lacked_memory calls) {F = F} r d limits brought
      Quiet opening olds news reports (Ok closed)) opening node
  node_keeps r d limits brought Quiet calls olds news reports opening node served =
      let closed = served.closed.closed in
      record {
        log = closed.log;
        run = closed.run;
        stands = closed.stands;
        hand = closed.hand;
        limited = closed.limited;
        served = record {
          passes = served.passes;
          ports = ports_keep closed.log calls olds served.passes news reports served.closed.carriers closed.seen served.ports;
          closed = served.closed;
        };
      }

  -- so does what is left of it, if that has all that was seen
  pub node_leaves : {S State Request Reply D : Type 0} (r : rules.Ghosts S State Request Rec Reply) (d : reports.Ghosts D) (limits : Limits)
      (brought : List Rec → ℕ) (Quiet : Type 0) (calls : ℕ) (olds news : List (DoorReport L)) (reports : List (PortReport D F))
      (opening : List Rec) (node : ClosedNode D F State Rec)
      → NodeServed (HasServed Serves failure_in lacked_memory calls) r d limits brought Quiet opening olds news reports node
      → is_seen_stored node ≡ true
      → LeavesSo r d limits (λ log. HaveServed (HasServed (Keeps log) failure_in lacked_memory calls) olds news reports) opening
      (disk_left node)
  node_leaves r d limits brought Quiet calls olds news reports opening (Ok node) served seen =
      let closed = served.closed.closed in
      record {
        log = closed.log;
        run = closed.run;
        served = record {
          passes = served.passes;
          ports = ports_keep closed.log calls olds served.passes news reports served.closed.carriers closed.seen served.ports;
        };
        more = option_to_list node.hand;
        images = λ some image there. with_hand r (with_opening opening closed.log) node.hand image (closed.stands.images some image there);
      }
  node_leaves r d limits brought Quiet calls olds news reports opening (Err left) served seen =
      let is = served.closed.left in
      record {
        log = is.stored;
        run = run_prefix r limits opening is.stored is.log
            (is.group ++ is.waiting, sym (append_assoc is.stored is.group is.waiting) ∙ sym is.log_is) is.run;
        served = record {
          passes = served.passes;
          ports = ports_keep is.stored calls olds served.passes news reports served.closed.carriers (is.seen_stored seen) served.ports;
        };
        more = records_in is.group;
        images = λ some image there. with_group r d opening is.stored is.group image (is.images some image there);
      }

-- so it is of a centre, if its charges are stored first
pub centre_keeps : {S L D F : Type 0} (r : rules.Ghosts S CentreState IrcRequest CentreRecord IrcReply) → StoresChargesFirst r
    → (d : reports.Ghosts D) (limits : Limits) (shown : Option ℕ) (report_of : L → LineState) (calls : ℕ) (Quiet : Type 0)
    (olds news : List (DoorReport L)) (met : List (PortReport D F)) (opening : List CentreRecord) (node : Parts D CentreState CentreRecord)
    → CentreServed r d limits opening shown report_of calls Quiet olds news met (Ok node)
    → ClosesSo r d limits (λ log closed. CentreKept r limits opening shown report_of log d calls Quiet olds news met closed) opening node
centre_keeps r law d limits shown report_of calls Quiet olds news met opening node served =
    node_keeps (ServesCall r limits opening shown report_of) (λ log. KeepsCall r limits opening shown report_of log) call_failure
    call_lacked_memory (λ log. keeps_call r law limits opening shown report_of log) r d limits applied_of Quiet calls olds news met opening node
    served

-- and of the Update Centre
pub update_keeps : {S L D F : Type 0} (r : rules.Ghosts S EditList UdcRequest Record UdcReply) (d : reports.Ghosts D) (limits : Limits)
    (report_of : L → LineState) (calls : ℕ) (Quiet : Type 0) (olds news : List (DoorReport L)) (met : List (PortReport D F))
    (opening : List Record) (node : Parts D EditList Record)
    → UpdateServed r d limits opening report_of calls Quiet olds news met (Ok node)
    → ClosesSo r d limits (λ log closed. UpdateKept r limits opening report_of log d calls Quiet olds news met closed) opening node
update_keeps r d limits report_of calls Quiet olds news met opening node served =
    node_keeps (ServesSession r limits opening report_of) (λ log. KeepsSession r limits opening report_of log) session_failure
    session_lacked_memory (λ log. keeps_session r limits opening report_of log) r d limits taken_count Quiet calls olds news met opening node
    served

-- what is left of a centre keeps its calls, too
pub centre_leaves : {S L D F : Type 0} (r : rules.Ghosts S CentreState IrcRequest CentreRecord IrcReply) → StoresChargesFirst r
    → (d : reports.Ghosts D) (limits : Limits) (shown : Option ℕ) (report_of : L → LineState) (calls : ℕ) (Quiet : Type 0)
    (olds news : List (DoorReport L)) (met : List (PortReport D F)) (opening : List CentreRecord)
    (node : ClosedNode D F CentreState CentreRecord)
    → CentreServed r d limits opening shown report_of calls Quiet olds news met node → is_seen_stored node ≡ true
    → LeavesSo r d limits (λ log. HaveServed (HasKeptCalls r limits opening shown report_of log calls) olds news met) opening (disk_left node)
centre_leaves r law d limits shown report_of calls Quiet olds news met opening node served seen =
    node_leaves (ServesCall r limits opening shown report_of) (λ log. KeepsCall r limits opening shown report_of log) call_failure
    call_lacked_memory (λ log. keeps_call r law limits opening shown report_of log) r d limits applied_of Quiet calls olds news met opening node
    served seen

-- and what is left of the Update Centre its sessions
pub update_leaves : {S L D F : Type 0} (r : rules.Ghosts S EditList UdcRequest Record UdcReply) (d : reports.Ghosts D) (limits : Limits)
    (report_of : L → LineState) (calls : ℕ) (Quiet : Type 0) (olds news : List (DoorReport L)) (met : List (PortReport D F))
    (opening : List Record) (node : ClosedNode D F EditList Record)
    → UpdateServed r d limits opening report_of calls Quiet olds news met node → is_seen_stored node ≡ true
    → LeavesSo r d limits (λ log. HaveServed (HasKeptSessions r limits opening report_of log calls) olds news met) opening (disk_left node)
update_leaves r d limits report_of calls Quiet olds news met opening node served seen =
    node_leaves (ServesSession r limits opening report_of) (λ log. KeepsSession r limits opening report_of log) session_failure
    session_lacked_memory (λ log. keeps_session r limits opening report_of log) r d limits taken_count Quiet calls olds news met opening node
    served seen
