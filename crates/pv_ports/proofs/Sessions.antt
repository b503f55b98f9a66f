-- A session in progress, with one line more or one byte more.
use Rattle.std.proofs.Common.{◌≡◌, ℕ, ◌+◌, ◌≤◌, ◌<◌, Bool, true, false, List, [], ◌∷◌, ◌++◌, length, take, Option, Some, None, MatchOption, if◌then◌else◌, refl, ap, sym, ◌∙◌, subst, arith, rules, inl, inr, append_assoc, append-nil, length-append}
use Rattle.std.specs.Prelude.{drop, replicate, ◌-◌, ◌==◌, ◌&&◌, nat_lt, slice_index, option_map}
use Rattle.std.specs.Io.KnownBytes.{Appends}
use Rattle.std.proofs.KnownBytes.{Appends-nil, Appends-trans}
use Rattle.std.proofs.lemmas.Bool.{ltb-true, ltb-false}
use Rattle.std.proofs.Math.Seq.{take-append-add}
use Rattle.std.proofs.lemmas.List.{take_all, length-take-le, take-append-le, drop-replicate, take-replicate}
use Rattle.pv_outside.specs.declared.limits.Limits.{Limits}
use Rattle.pv_outside.specs.Counts.{Rose}
use Rattle.pv_node.specs.declared.rules.Rules as rules
use Rattle.pv_words.specs.Parts.{Exactly}
use Rattle.pv_words.specs.Split.{HasNone}
use Rattle.pv_edits.specs.declared.record.Record.{Record}
use Rattle.pv_editor.specs.Lines.{IsLine}
use Rattle.pv_editor.specs.Say.{Says, turn_of, new_seat}
use Rattle.pv_editor.specs.declared.line.EditLine.{EditLine}
use Rattle.pv_editor.specs.declared.reading.TheConstants.{LONGEST_LINE}
use Rattle.pv_editor.specs.declared.seat.EditorSeat.{EditorSeat}
use Rattle.pv_editor.specs.declared.step.EditStep.{EditStep}
use Rattle.pv_editor.specs.declared.step.EditStep.TheVariants as steps
use Rattle.pv_live.specs.Asking.{HasFailed}
use Rattle.pv_live.specs.Pass.{Standing}
use Rattle.pv_live.specs.declared.fault.LiveFault.{LiveFault}
use Rattle.pv_live.specs.declared.fault.LiveFault.TheVariants as faults
use Rattle.pv_udc.specs.EditList.{EditList, all_places}
use Rattle.pv_udc.specs.declared.reply.UdcReply.{UdcReply}
use Rattle.pv_udc.specs.declared.request.UdcRequest.{UdcRequest}
use Rattle.pv_ports.specs.Ends.{LineState}
use Rattle.pv_ports.specs.Typing.{text_in_line, ended_line}
use Rattle.pv_ports.specs.Session.{ask_fault, SessionEnd, session_end, Exchange, Traffic, no_traffic, exchange_line, exchange_mark, exchange_end, traffic_after, is_session_over, TakesLine, TakesExchange, IsSession, answered_step}
use Rattle.pv_ports.specs.SessionEnds.{AllSent, IsCutOff, IsSent, GivesWay, end_if_cut, EndsAs, InSession, IsServedSession}
use Rattle.pv_ports.specs.declared.edit_end.EditEnd.{EditEnd}
use Rattle.pv_ports.specs.declared.edit_end.EditEnd.TheVariants as ends
use Rattle.pv_ports.specs.declared.typing.TheConstants.{KEPT, NEWLINE, RETURN}
use Rattle.pv_ports.proofs.Talking.{rose_since}

-- ---- a line of which only the beginning is kept

-- a line says at most one byte less than it has
text-length : (line : List ℕ) → length line ≤ length (text_in_line line) + 1
text-length line = by (nat_lt 0 (length line) && slice_index line (length line - 1) == RETURN)
  where
    by : (returned : Bool) → length line ≤ length (if returned then take (length line - 1) line else line) + 1
    by true = omega (arith, length-take-le (length line - 1) line (omega arith))
    by false = omega arith

-- a text that is too long is taken as any other
says_long : (seat after : EditorSeat) (text other : List ℕ) (records : List Record) (places : List ℕ) (step : EditStep)
    → LONGEST_LINE < length text → LONGEST_LINE < length other → Says seat text records places after step
    → Says seat other records places after step
says_long seat after text other records places step long longer says = by says.line says.reads says.seat_is says.step_is
  where
    by : (line : Option EditLine) → Exactly (IsLine text) line → after ≡ (turn_of seat records places line).0
        → step ≡ (turn_of seat records places line).1 → Says seat other records places after step
    by (Some line) reads seat_is step_is = absurd (omega (arith, reads.found.fits, long))
    by None reads seat_is step_is = record {
      line = None;
      reads = record { found = tt; only = λ line is. absurd (omega (arith, is.fits, longer)) };
      seat_is = seat_is;
      step_is = step_is;
    }

-- what is kept of a line is taken as the whole line is
pub says_kept : (seat after : EditorSeat) (line : List ℕ) (records : List Record) (places : List ℕ) (step : EditStep)
    → Says seat (text_in_line (take KEPT line)) records places after step → Says seat (text_in_line line) records places after step
says_kept seat after line records places step says = by (nat_lt KEPT (length line)) refl
  where
    by : (over : Bool) → nat_lt KEPT (length line) ≡ over → Says seat (text_in_line line) records places after step
    by true is =
        let more = ltb-true KEPT (length line) is in
        says_long seat after (text_in_line (take KEPT line)) (text_in_line line) records places step
        (omega (arith, more, text-length (take KEPT line), length-take-le KEPT line (omega (arith, more))))
        (omega (arith, more, text-length line)) says
    by false is =
        subst (λ (l : List ℕ). Says seat (text_in_line l) records places after step)
        (take_all KEPT line (ltb-false KEPT (length line) is)) says

-- one byte more of a line is kept, if there is room
pub keeps_byte : (line kept : List ℕ) (byte : ℕ) → kept ≡ take KEPT line → length kept < KEPT
    → kept ++ byte ∷ [] ≡ take KEPT (line ++ byte ∷ [])
keeps_byte line kept byte is room = by (nat_lt (length line) KEPT) refl
  where
    by : (within : Bool) → nat_lt (length line) KEPT ≡ within → kept ++ byte ∷ [] ≡ take KEPT (line ++ byte ∷ [])
    by true within =
        let fits = ltb-true (length line) KEPT within in
        ap (λ (l : List ℕ). l ++ byte ∷ []) (is ∙ take_all KEPT line (omega (arith, fits)))
        ∙ sym (take_all KEPT (line ++ byte ∷ []) (omega (arith, fits, length-append line (byte ∷ []))))
    by false within =
        let full = length-take-le KEPT line (ltb-false (length line) KEPT within) in
        absurd (omega (arith, room, ap length is, full))

pub keeps_none : (line kept : List ℕ) (byte : ℕ) → kept ≡ take KEPT line → KEPT ≤ length kept
    → kept ≡ take KEPT (line ++ byte ∷ [])
keeps_none line kept byte is full = by (nat_lt (length line) KEPT) refl
  where
    by : (within : Bool) → nat_lt (length line) KEPT ≡ within → kept ≡ take KEPT (line ++ byte ∷ [])
    by true within =
        let fits = ltb-true (length line) KEPT within in
        absurd (omega (arith, full, fits, ap length (is ∙ take_all KEPT line (omega (arith, fits)))))
    by false within = is ∙ sym (take-append-le KEPT line (byte ∷ []) (ltb-false (length line) KEPT within))

-- a step that is no search
abbrev IsAnswered : EditStep → Type 0
IsAnswered (steps.Say text) = Unit {0}
IsAnswered (steps.Ask editor q wish) = Unit {0}
IsAnswered (steps.Responses editor from) = ⊥
IsAnswered steps.Close = Unit {0}

answered : (records : List Record) (step : EditStep) → IsAnswered (answered_step records step)
answered records (steps.Say text) = tt
answered records (steps.Ask editor q wish) = tt
answered records (steps.Responses editor from) = tt
answered records steps.Close = tt

-- a text with newlines after it has its end
pub line_ended : (text : List ℕ) (room : ℕ) → length text < room
    → take (length text + 1) (text ++ drop (length text) (replicate room NEWLINE)) ≡ ended_line text
line_ended text room fits =
    take-append-add text (drop (length text) (replicate room NEWLINE)) 1
    ∙ ap (λ (l : List ℕ). text ++ l)
    (ap (λ (l : List ℕ). take 1 l) (drop-replicate (length text) room NEWLINE)
    ∙ take-replicate 1 (room - length text) NEWLINE (omega (arith, fits)))

-- ---- bytes in order

-- a line's end is taken
end_taken : (bytes unended rest : List ℕ) (byte : ℕ)
    → (bytes ++ unended) ++ byte ∷ rest ≡ ((bytes ++ (unended ++ byte ∷ [])) ++ []) ++ rest
end_taken bytes unended rest byte =
    append_assoc bytes unended (byte ∷ rest)
    ∙ ap (λ (l : List ℕ). bytes ++ l) (sym (append_assoc unended (byte ∷ []) rest))
    ∙ sym (append_assoc bytes (unended ++ byte ∷ []) rest)
    ∙ ap (λ (l : List ℕ). l ++ rest) (sym (append-nil (bytes ++ (unended ++ byte ∷ []))))

-- a byte of a line is taken
byte_taken : (bytes unended rest : List ℕ) (byte : ℕ)
    → (bytes ++ unended) ++ byte ∷ rest ≡ (bytes ++ (unended ++ byte ∷ [])) ++ rest
byte_taken bytes unended rest byte =
    append_assoc bytes unended (byte ∷ rest)
    ∙ ap (λ (l : List ℕ). bytes ++ l) (sym (append_assoc unended (byte ∷ []) rest))
    ∙ sym (append_assoc bytes (unended ++ byte ∷ []) rest)

-- this many bytes were taken then
byte_counted : (bytes unended : List ℕ) (byte count : ℕ) → count ≡ length (bytes ++ unended)
    → count + 1 ≡ length (bytes ++ (unended ++ byte ∷ []))
byte_counted bytes unended byte count is =
    ap (λ (n : ℕ). n + 1) is ∙ sym (length-append (bytes ++ unended) (byte ∷ []))
    ∙ ap length (append_assoc bytes unended (byte ∷ []))

-- no byte of a line ends it
none_on : (byte other : ℕ) (bytes : List ℕ) → HasNone byte bytes → (other ≡ byte → ⊥) → HasNone byte (bytes ++ other ∷ [])
none_on byte other [] none differs = (differs, tt)
none_on byte other (first ∷ bytes) none differs = (none.0, none_on byte other bytes none.1 differs)

-- ---- a line more

-- an end that a line brings
abbrev IsBrought : Option SessionEnd → Type 0
IsBrought None = Unit {0}
IsBrought (Some ends.Closed) = Unit {0}
IsBrought (Some (ends.DiskFault failure)) = Unit {0}
IsBrought (Some (ends.Memory stored)) = Unit {0}
IsBrought _ = ⊥

brought : (exchange : Exchange) → IsBrought (exchange_end exchange)
brought exchange = search rules

module _ {S : Type 0} (r : rules.Ghosts S EditList UdcRequest Record UdcReply) (limits : Limits) (opening : List Record)
    (start : Standing Record) (first : LineState) (old pass : Standing Record) (seat after : EditorSeat) (marks kept : List ℕ) (count : ℕ)
    (rest : List ℕ) (line line2 : LineState) (exchange : Exchange)
    (here : InSession r limits opening start first old seat marks kept count (NEWLINE ∷ rest) line)
    (lasts : is_session_over (length marks) count ≡ false) (line_is : exchange_line exchange ≡ here.unended)
    (happens : TakesExchange r limits opening old seat exchange pass after) (taken : line2.taken ≡ line.taken)
    (reads : line.read_faults ≤ line2.read_faults) (writes : line.write_faults ≤ line2.write_faults) where
  abbrev mark : ℕ
  mark = exchange_mark exchange (length opening + length pass.seen)

  abbrev now : Traffic
  now = traffic_after exchange (length opening + length pass.seen) here.said

  open_then : is_session_over (length here.said.marks) (length (here.said.bytes ++ exchange_line exchange)) ≡ false
  open_then =
      let counted = ap (λ (l : List ℕ). length (here.said.bytes ++ l)) line_is ∙ sym here.counted in
      (λ i. is_session_over (length (sym here.marked i)) (counted i)) ∙ lasts

  session_on : IsSession r limits opening (exchange ∷ here.happened) start pass after now
  session_on = (
    old,
    seat,
    here.said,
    here.session,
    here.goes_on,
    subst (λ (l : List ℕ). HasNone NEWLINE l) (sym line_is) here.one_line,
    open_then,
    happens,
    refl,
  )

  marked_on : marks ++ mark ∷ [] ≡ now.marks
  marked_on = ap (λ (m : List ℕ). m ++ mark ∷ []) here.marked

  bytes_on : Appends first.taken line2.taken ((now.bytes ++ []) ++ rest)
  bytes_on =
      let same = end_taken here.said.bytes here.unended rest NEWLINE
      ∙ ap (λ (l : List ℕ). ((here.said.bytes ++ ended_line l) ++ []) ++ rest) (sym line_is) in
      subst (λ (t : Option (List ℕ)). Appends first.taken t ((now.bytes ++ []) ++ rest)) (sym taken)
      (subst (λ (l : List ℕ). Appends first.taken line.taken l) same here.bytes)

  -- the session goes on after its reply
  goes : exchange_end exchange ≡ None → Appends line.written line2.written now.reply
      → InSession r limits opening start first pass after (marks ++ mark ∷ []) [] (count + 1) rest line2
  goes none written = record {
    happened = exchange ∷ here.happened;
    said = now;
    unended = [];
    session = session_on;
    goes_on = none;
    marked = marked_on;
    kept_is = sym (take_all KEPT [] (omega arith));
    one_line = tt;
    counted = byte_counted here.said.bytes here.unended NEWLINE count here.counted
        ∙ ap length (ap (λ (l : List ℕ). here.said.bytes ++ ended_line l) (sym line_is) ∙ sym (append-nil now.bytes));
    bytes = bytes_on;
    sent = Appends-trans first.written line.written line2.written (here.said.sent ++ here.said.reply) now.reply here.sent written;
    reads = omega (arith, here.reads, reads);
    writes = omega (arith, here.writes, writes);
  }

  -- its line ended it, and this was sent
  ended_by : {D F : Type 0} → (end : EditEnd D F)
      → EndsAs end (exchange ∷ here.happened) (is_session_over (length now.marks) (length (now.bytes ++ []))) rest first line2
      → IsSent end first line2 now → IsServedSession r limits opening start first pass (marks ++ mark ∷ []) line2 end
  ended_by end by sent = record {
    happened = exchange ∷ here.happened;
    seat = after;
    said = now;
    unended = [];
    rest = rest;
    session = session_on;
    marked = marked_on;
    one_line = tt;
    bytes = bytes_on;
    sent = sent;
    ends = by;
  }

  -- its reply was sent
  pub answers : {D F : Type 0} → (end : Option (EditEnd D F)) → option_map session_end end ≡ exchange_end exchange
      → Appends line.written line2.written now.reply
      → MatchOption end (InSession r limits opening start first pass after (marks ++ mark ∷ []) [] (count + 1) rest line2)
      (λ e. IsServedSession r limits opening start first pass (marks ++ mark ∷ []) line2 e)
  answers None is written = goes (sym is) written
  answers {D = D} {F = F} (Some end) is written = by end is
    where
      all : AllSent first line2 now
      all = Appends-trans first.written line.written line2.written (here.said.sent ++ here.said.reply) now.reply here.sent written

      by : (end : EditEnd D F) → Some (session_end end) ≡ exchange_end exchange
          → IsServedSession r limits opening start first pass (marks ++ mark ∷ []) line2 end
      by ends.Closed is = ended_by ends.Closed (sym is) all
      by (ends.DiskFault failure) is = ended_by (ends.DiskFault failure) (sym is) (inl all)
      by (ends.Memory stored) is = ended_by (ends.Memory stored) (sym is) (inl all)
      by ends.Hung is = absurd (subst IsBrought (sym is) (brought exchange))
      by ends.Spent is = absurd (subst IsBrought (sym is) (brought exchange))
      by ends.ReadFault is = absurd (subst IsBrought (sym is) (brought exchange))
      by ends.WriteFault is = absurd (subst IsBrought (sym is) (brought exchange))

  -- the write of its reply failed
  pub is_cut : {D F : Type 0} → (end : Option (EditEnd D F)) (n : ℕ) → option_map session_end end ≡ exchange_end exchange
      → Appends line.written line2.written (take n now.reply) → Rose line.write_faults line2.write_faults
      → IsServedSession r limits opening start first pass (marks ++ mark ∷ []) line2 (end_if_cut end)
  is_cut {D = D} {F = F} end n is written rose = by end is
    where
      cut : IsCutOff first line2 now
      cut = record {
        count = n;
        written = Appends-trans first.written line.written line2.written (here.said.sent ++ here.said.reply) (take n now.reply)
            here.sent written;
        rose = rose_since first.write_faults line.write_faults line2.write_faults here.writes rose;
      }

      by : (end : Option (EditEnd D F)) → option_map session_end end ≡ exchange_end exchange
          → IsServedSession r limits opening start first pass (marks ++ mark ∷ []) line2 (end_if_cut end)
      by None is = ended_by ends.WriteFault (subst GivesWay is tt) cut
      by (Some ends.Closed) is = ended_by ends.WriteFault (subst GivesWay is tt) cut
      by (Some (ends.DiskFault failure)) is = ended_by (ends.DiskFault failure) (sym is) (inr cut)
      by (Some (ends.Memory stored)) is = ended_by (ends.Memory stored) (sym is) (inr cut)
      by (Some ends.Hung) is = absurd (subst IsBrought (sym is) (brought exchange))
      by (Some ends.Spent) is = absurd (subst IsBrought (sym is) (brought exchange))
      by (Some ends.ReadFault) is = absurd (subst IsBrought (sym is) (brought exchange))
      by (Some ends.WriteFault) is = absurd (subst IsBrought (sym is) (brought exchange))

-- ---- a byte more, and the ends without one

module _ {S : Type 0} (r : rules.Ghosts S EditList UdcRequest Record UdcReply) (limits : Limits) (opening : List Record)
    (start : Standing Record) (first : LineState) (pass : Standing Record) (seat : EditorSeat) (marks : List ℕ) where
  -- a byte is taken that does not end its line
  pub types : (byte : ℕ) (kept kept2 : List ℕ) (count : ℕ) (rest : List ℕ) (line : LineState)
      → InSession r limits opening start first pass seat marks kept count (byte ∷ rest) line → (byte ≡ NEWLINE → ⊥)
      → ((l : List ℕ) → kept ≡ take KEPT l → kept2 ≡ take KEPT (l ++ byte ∷ []))
      → InSession r limits opening start first pass seat marks kept2 (count + 1) rest line
  types byte kept kept2 count rest line here differs keeps = record {
    happened = here.happened;
    said = here.said;
    unended = here.unended ++ byte ∷ [];
    session = here.session;
    goes_on = here.goes_on;
    marked = here.marked;
    kept_is = keeps here.unended here.kept_is;
    one_line = none_on NEWLINE byte here.unended here.one_line differs;
    counted = byte_counted here.said.bytes here.unended byte count here.counted;
    bytes = subst (λ (l : List ℕ). Appends first.taken line.taken l) (byte_taken here.said.bytes here.unended rest byte) here.bytes;
    sent = here.sent;
    reads = here.reads;
    writes = here.writes;
  }

  -- bytes are read
  pub reads_more : (kept : List ℕ) (count : ℕ) (old keyed new : List ℕ) (line line2 : LineState)
      → InSession r limits opening start first pass seat marks kept count old line
      → ((f : Option (List ℕ)) (keys : List ℕ) → Appends f line.taken (keys ++ old) → Appends f line2.taken ((keys ++ keyed) ++ new))
      → line2.written ≡ line.written → line.read_faults ≤ line2.read_faults → line.write_faults ≤ line2.write_faults
      → InSession r limits opening start first pass seat marks kept count (keyed ++ new) line2
  reads_more kept count old keyed new line line2 here keys written reads writes = record {
    happened = here.happened;
    said = here.said;
    unended = here.unended;
    session = here.session;
    goes_on = here.goes_on;
    marked = here.marked;
    kept_is = here.kept_is;
    one_line = here.one_line;
    counted = here.counted;
    bytes = subst (λ (l : List ℕ). Appends first.taken line2.taken l) (append_assoc (here.said.bytes ++ here.unended) keyed new)
        (keys first.taken (here.said.bytes ++ here.unended) here.bytes);
    sent = subst (λ (t : Option (List ℕ)). Appends first.written t (here.said.sent ++ here.said.reply)) (sym written) here.sent;
    reads = omega (arith, here.reads, reads);
    writes = omega (arith, here.writes, writes);
  }

  -- it ends without a line more
  pub ends_with : {D F : Type 0} → (kept : List ℕ) (count : ℕ) (rest : List ℕ) (line : LineState) (end : EditEnd D F)
      → (here : InSession r limits opening start first pass seat marks kept count rest line)
      → (is_session_over (length marks) count ≡ is_session_over (length here.said.marks) (length (here.said.bytes ++ here.unended))
      → EndsAs end here.happened (is_session_over (length here.said.marks) (length (here.said.bytes ++ here.unended))) rest first line)
      → (AllSent first line here.said → IsSent end first line here.said)
      → IsServedSession r limits opening start first pass marks line end
  ends_with kept count rest line end here by sent = record {
    happened = here.happened;
    seat = seat;
    said = here.said;
    unended = here.unended;
    rest = rest;
    session = here.session;
    marked = here.marked;
    one_line = here.one_line;
    bytes = here.bytes;
    sent = sent here.sent;
    ends = by (λ i. is_session_over (length (here.marked i)) (here.counted i));
  }

-- a session begins
pub begun : {S : Type 0} (r : rules.Ghosts S EditList UdcRequest Record UdcReply) (limits : Limits) (opening : List Record)
    (pass : Standing Record) (seat : EditorSeat) (marks kept : List ℕ) (count : ℕ) (ahead : List ℕ) (line : LineState)
    → seat ≡ new_seat → marks ≡ [] → kept ≡ [] → count ≡ 0 → ahead ≡ []
    → InSession r limits opening pass line pass seat marks kept count ahead line
begun r limits opening pass seat marks kept count ahead line new none none_kept zero none_read = record {
  happened = [];
  said = no_traffic;
  unended = [];
  session = (refl, new, refl);
  goes_on = refl;
  marked = none;
  kept_is = none_kept ∙ sym (take_all KEPT [] (omega arith));
  one_line = tt;
  counted = zero;
  bytes = subst (λ (l : List ℕ). Appends line.taken line.taken l) (sym none_read) (Appends-nil line.taken);
  sent = Appends-nil line.written;
  reads = omega arith;
  writes = omega arith;
}

-- ---- a line at what a pass has seen

module _ {S : Type 0} (r : rules.Ghosts S EditList UdcRequest Record UdcReply) (limits : Limits) (opening : List Record) where
  -- what is kept of a line is taken as the whole line is
  pub takes_kept : (old new : Standing Record) (seat after : EditorSeat) (kept line text : List ℕ) (step : EditStep)
      → text ≡ text_in_line kept → kept ≡ take KEPT line → TakesLine r limits opening old seat text new after step
      → TakesLine r limits opening old seat (text_in_line line) new after step
  takes_kept old new seat after kept line text step text_is is takes = record {
    state = takes.state;
    stands = takes.stands;
    answers = record {
      said = takes.answers.said;
      says = says_kept seat after line takes.state.records (all_places takes.state.records) takes.answers.said
          (subst (λ (l : List ℕ). Says seat l takes.state.records (all_places takes.state.records) after takes.answers.said)
          (text_is ∙ ap text_in_line is) takes.answers.says);
      step_is = takes.answers.step_is;
    };
    looks = takes.looks;
  }

  -- a search is answered at the look
  pub never_responses : (old new : Standing Record) (seat after : EditorSeat) (text : List ℕ) (editor from : ℕ)
      → TakesLine r limits opening old seat text new after (steps.Responses editor from) → ⊥
  never_responses old new seat after text editor from takes =
      (subst IsAnswered (sym takes.answers.step_is) (answered takes.state.records takes.answers.said))

-- ---- an ask without an answer

-- what an ask has done to its pass does not depend on what the failure of the disk is
pub failed_as : {S State Request Rec Reply D F : Type 0} (r : rules.Ghosts S State Request Rec Reply) (limits : Limits) (opening : List Rec)
    (request : Request) (old new : Standing Rec) (fault : LiveFault D F) → HasFailed r limits opening request old new fault
    → HasFailed r limits opening request old new (ask_fault fault)
failed_as r limits opening request old new (faults.Memory None) is = is
failed_as r limits opening request old new (faults.Memory (Some place)) is = is
failed_as r limits opening request old new (faults.Disk failure) is = is
failed_as r limits opening request old new (faults.Full count) is = is
