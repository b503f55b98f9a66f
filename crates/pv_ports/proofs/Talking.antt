-- A call in progress, with one thing more that happens.
use Rattle.std.proofs.Common.{◌≡◌, ℕ, ◌+◌, ◌≤◌, List, [], ◌∷◌, ◌++◌, length, take, Option, Some, None, MatchOption, true, refl, ap, sym, ◌∙◌, subst, arith, append_assoc}
use Rattle.std.specs.Prelude.{◌≢◌}
use Rattle.std.specs.Io.KnownBytes.{Appends}
use Rattle.std.proofs.KnownBytes.{Appends-nil}
use Rattle.pv_outside.specs.declared.limits.Limits.{Limits}
use Rattle.pv_outside.specs.Counts.{Rose}
use Rattle.pv_node.specs.declared.rules.Rules as rules
use Rattle.pv_irc.specs.History.{CentreState}
use Rattle.pv_irc.specs.declared.record.CentreRecord.{CentreRecord}
use Rattle.pv_irc.specs.declared.reply.IrcReply.{IrcReply}
use Rattle.pv_irc.specs.declared.request.IrcRequest.{IrcRequest}
use Rattle.pv_live.specs.Pass.{Standing}
use Rattle.std.proofs.lemmas.Option.{none-some}
use mathlib.Core.List.{IsPrefix}
use Rattle.pv_node.specs.declared.decision.Told.{Told}
use Rattle.pv_live.specs.Asking.{HasAsked, IsFullFor}
use Rattle.pv_session.specs.Callers.{IsCallState}
use Rattle.pv_session.specs.State.{CallState, new_call, wish_in}
use Rattle.pv_session.specs.Messages.{screen_of_row}
use Rattle.pv_session.specs.Turns.{Goes, storing_turn, full_turn}
use Rattle.pv_session.specs.declared.message.Message.TheVariants.{PleaseTryLater}
use Rattle.pv_session.specs.declared.step.Phase.{Phase}
use Rattle.pv_session.specs.declared.step.Phase.TheVariants as phases
use Rattle.pv_session.specs.declared.step.Paid.{Paid}
use Rattle.pv_session.specs.declared.step.Wish.{Wish}
use Rattle.pv_wishes.specs.Wishes.{request_for, paid_by}
use Rattle.pv_session.specs.declared.step.Step.{Step}
use Rattle.pv_session.specs.declared.step.Step.TheVariants.{Quiet}
use Rattle.pv_session.specs.declared.step.Why.{Why}
use Rattle.pv_session.specs.declared.step.Why.TheVariants as whys
use Rattle.pv_ports.specs.Talk.{Happening, TurnedAway, Talked, first_talked, Talks, ComesAbout, StoresWish, IsTurnedAway, keys_in, step_bytes, marks_with, marks_after, talked_after}
use Rattle.pv_ports.specs.Ends.{LineState, InCall, AwaitsKey, IsServedCall, EndsAs, StepGoesOn, EndsFor, EndsAtStep, EndedFor, EmptiesAtEnd, IsWritten}
use Rattle.pv_ports.specs.Sending.{IsSent}
use Rattle.pv_ports.proofs.Sending.{none_written, all_written, written_all, queues_more, sends_on, cut_short}
use Rattle.pv_ports.proofs.Phases.{Tells, lasts_on, never_full}
use Rattle.pv_ports.specs.declared.end.CallEnd.{CallEnd}
use Rattle.pv_ports.specs.declared.end.CallEnd.TheVariants.{WriteFault, ReadFault, Hung}

-- a count that rose since later rose since earlier
pub rose_since : (first old new : ℕ) → first ≤ old → Rose old new → Rose first new
rose_since first old new le rose = omega (arith, le, rose)

module _ {S : Type 0} (r : rules.Ghosts S CentreState IrcRequest CentreRecord IrcReply) (limits : Limits) (opening : List CentreRecord) where
  -- what was owed is stored
  pub stores : (old pass : Standing CentreRecord) (call after : CallState) (told : Told IrcReply) (step : Step) (wish : Wish)
      (request : IrcRequest) (reply : Paid) → Some wish ≡ wish_in call.phase → request ≡ request_for wish
      → HasAsked r limits opening request old pass told → IsPrefix old.seen pass.seen
      → pass ≡ record old { seen = pass.seen; told = pass.told; failed = pass.failed } → pass.failed ≡ old.failed
      → reply ≡ paid_by told.reply → Goes (storing_turn call call.phase reply) after step
      → StoresWish r limits opening old call wish told pass after step
  stores old pass call after told step wish request reply owed is asked prefix same failed by goes = record {
    owed = sym owed;
    asked = subst (λ (q : IrcRequest). HasAsked r limits opening q old pass told) is asked;
    asks = record { prefix = prefix; same = same };
    not_failed = failed;
    goes = subst (λ (p : Paid). Goes (storing_turn call call.phase p) after step) by goes;
  }

  -- the centre is full
  pub turns : (old pass : Standing CentreRecord) (call after : CallState) (count : ℕ) (step : Step) (wish : Wish) (request : IrcRequest)
      → Some wish ≡ wish_in call.phase → request ≡ request_for wish
      → (pass.told ≡ old.told) × (pass.failed ≡ old.failed) × IsFullFor r limits opening request pass count
      → IsPrefix old.seen pass.seen → pass ≡ record old { seen = pass.seen; told = pass.told; failed = pass.failed }
      → Goes (full_turn call call.phase) after step → IsTurnedAway r limits opening old call count pass after step
  turns old pass call after count step wish request owed is full prefix same goes = record {
    wish = wish;
    owed = sym owed;
    full = subst (λ (q : IrcRequest). IsFullFor r limits opening q pass count) is full.2;
    asks = record { prefix = prefix; same = same };
    not_told = full.0;
    not_failed = full.1;
    goes = goes;
  }

-- the call ends then
pub full_ends : (call after : CallState) (phase : Phase) (wish : Wish) (step : Step) → Some wish ≡ wish_in phase
    → Goes (full_turn call phase) after step → EndedFor whys.Full step
full_ends call after phases.Listening wish step owed goes = absurd (none-some wish (sym owed))
full_ends call after (phases.Owing other) wish step owed goes = (screen_of_row PleaseTryLater, goes.step_is)
full_ends call after phases.Over wish step owed goes = absurd (none-some wish (sym owed))

-- a call that owes nothing and is not over listens
listening : (phase : Phase) → wish_in phase ≡ None → phase ≢ phases.Over → phase ≡ phases.Listening
listening phases.Listening none lasts = refl
listening (phases.Owing wish) none lasts = absurd cc
listening phases.Over none lasts = absurd (lasts refl)

-- the marks by equal numbers
pub noted_by : (before before' after after' mark mark' : ℕ) (old new : List ℕ) → before ≡ before' → after ≡ after' → mark ≡ mark'
    → new ≡ marks_with before after mark old → new ≡ marks_with before' after' mark' old
noted_by before before' after after' mark mark' old new b a m is = is ∙ (λ i. marks_with (b i) (a i) (m i) old)

module _ {S : Type 0} (r : rules.Ghosts S CentreState IrcRequest CentreRecord IrcReply) (limits : Limits) (opening : List CentreRecord)
    (shown : Option ℕ) (start : Standing CentreRecord) (first : LineState) (h : Happening) (old pass : Standing CentreRecord)
    (call after : CallState) (marks marks2 rest queued queued2 : List ℕ) (line line2 : LineState) (step : Step)
    (here : InCall r limits opening shown start first old call marks (keys_in h ++ rest) queued line)
    (happens : ComesAbout r limits opening shown old call h pass after step)
    (noted : marks2 ≡ marks_after h call.entries after.entries (length opening + length pass.seen) marks)
    (taken : line2.taken ≡ line.taken) (reads : line.read_faults ≤ line2.read_faults)
    (writes : line.write_faults ≤ line2.write_faults) (own : IsCallState after) where
  abbrev now : Talked
  now = talked_after opening h call.entries after.entries pass step here.talked

  abbrev talks_on : Talks r limits opening shown start pass after step now
  talks_on = record {
    happened = h ∷ here.talks.happened;
    talk = (old, call, here.last, here.talked, here.talks.talk, happens, refl);
  }

  marked_on : marks2 ≡ now.marks
  marked_on =
      noted ∙ ap (λ (m : List ℕ). marks_after h call.entries after.entries (length opening + length pass.seen) m) here.marked

  keys_on : Appends first.taken line2.taken (now.keys ++ rest)
  keys_on =
      subst (λ (l : List ℕ). Appends first.taken line2.taken l) (sym (append_assoc here.talked.keys (keys_in h) rest))
      (subst (λ (t : Option (List ℕ)). Appends first.taken t (here.talked.keys ++ (keys_in h ++ rest))) (sym taken) here.keys)

  -- its screen is queued after those before it
  queued_on : IsSent first.written line.written now.sent (queued ++ step_bytes step)
  queued_on = queues_more first.written line.written here.talked.sent queued (step_bytes step) here.sent

  -- of them a prefix is written
  sent_on : IsSent line.written line2.written (queued ++ step_bytes step) queued2 → IsSent first.written line2.written now.sent queued2
  sent_on sent = sends_on first.written line.written line2.written now.sent (queued ++ step_bytes step) queued_on queued2 sent

  -- its screen was queued or written
  pub goes_on : after.phase ≢ phases.Over → IsSent line.written line2.written (queued ++ step_bytes step) queued2
      → InCall r limits opening shown start first pass after marks2 rest queued2 line2
  goes_on lasts sent = record {
    last = step;
    talked = now;
    talks = talks_on;
    own = own;
    lasts = lasts;
    marked = marked_on;
    keys = keys_on;
    sent = sent_on sent;
    reads = omega (arith, here.reads, reads);
    writes = omega (arith, here.writes, writes);
  }

  -- and nothing is owed
  pub goes_on_at_rest : after.phase ≡ phases.Listening → IsSent line.written line2.written (queued ++ step_bytes step) queued2
      → AwaitsKey r limits opening shown start first pass after marks2 rest queued2 line2
  goes_on_at_rest listens sent = record { in_call = goes_on (λ over. absurd cc) sent; listens = listens }

  -- a write failed
  pub cut_off : {D F : Type 0} → (n : ℕ) → Appends line.written line2.written (take n (queued ++ step_bytes step))
      → Rose line.write_faults line2.write_faults
      → IsServedCall r limits opening shown {D = D} {F = F} start first pass marks2 line2 WriteFault
  cut_off n written rose = record {
    pass = pass;
    call = after;
    last = step;
    talked = now;
    rest = rest;
    talks = talks_on;
    marked = marked_on;
    keys = keys_on;
    written = cut_short first.written line.written line2.written now.sent (queued ++ step_bytes step) queued_on n written;
    ends = (refl, rose_since first.write_faults line.write_faults line2.write_faults here.writes rose);
  }

  -- its step ended the call, as at a full centre only if the ask returned that
  pub ends_at : {D F : Type 0} → (count : ℕ) (why : Why) (end : CallEnd D F) → EndsFor why count end → EndedFor why step
      → (EndedFor whys.Full step → h ≡ TurnedAway count) → IsSent line.written line2.written (queued ++ step_bytes step) queued2
      → queued2 ≡ [] → IsServedCall r limits opening shown start first pass marks2 line2 end
  ends_at {D = D} {F = F} count why end is ended told sent none = record {
    pass = pass;
    call = after;
    last = step;
    talked = now;
    rest = rest;
    talks = talks_on;
    marked = marked_on;
    keys = keys_on;
    written = written_for why end is (written_all first.written line2.written now.sent queued2 (sent_on sent) none);
    ends = ends_for why end is ended;
  }
    where
      written_for : (why : Why) (end : CallEnd D F) → EndsFor why count end → Appends first.written line2.written now.sent
          → IsWritten end first.written line2.written now.sent
      written_for whys.Finished end is all = subst (λ e. IsWritten e first.written line2.written now.sent) (sym is) all
      written_for whys.Refused end is all = subst (λ e. IsWritten e first.written line2.written now.sent) (sym is) all
      written_for whys.Spent end is all = subst (λ e. IsWritten e first.written line2.written now.sent) (sym is) all
      written_for whys.Full end is all = subst (λ e. IsWritten e first.written line2.written now.sent) (sym is) all

      ends_for : (why : Why) (end : CallEnd D F) → EndsFor why count end → EndedFor why step
          → EndsAs r limits opening shown end (h ∷ here.talks.happened) pass after step pass rest first line2
      ends_for whys.Finished end is by =
          subst (λ e. EndsAs r limits opening shown e (h ∷ here.talks.happened) pass after step pass rest first line2) (sym is) (refl, by)
      ends_for whys.Refused end is by =
          subst (λ e. EndsAs r limits opening shown e (h ∷ here.talks.happened) pass after step pass rest first line2) (sym is) (refl, by)
      ends_for whys.Spent end is by =
          subst (λ e. EndsAs r limits opening shown e (h ∷ here.talks.happened) pass after step pass rest first line2) (sym is) (refl, by)
      ends_for whys.Full end is by =
          subst (λ e. EndsAs r limits opening shown e (h ∷ here.talks.happened) pass after step pass rest first line2) (sym is)
          (refl, by, told by)

  -- its step may have ended the call, and says whether it did
  pub comes_to : {D F : Type 0} → (count : ℕ) (result : Option (CallEnd D F)) → MatchOption result (StepGoesOn step) (EndsAtStep step count)
      → Tells step after.phase → IsSent line.written line2.written (queued ++ step_bytes step) queued2 → EmptiesAtEnd step queued2
      → MatchOption result (InCall r limits opening shown start first pass after marks2 rest queued2 line2)
      (λ end. IsServedCall r limits opening shown start first pass marks2 line2 end)
  comes_to count None ends tells sent none = goes_on (lasts_on step after.phase tells ends) sent
  comes_to count (Some end) ends tells sent none =
      ends_at count ends.why end ends.ends ends.ended (λ full. absurd (never_full step after.phase tells full)) sent
      (none ends.why ends.ended)

  -- its step ended the call, since the centre is full
  pub turns_away : {D F : Type 0} → (count : ℕ) (result : Option (CallEnd D F)) → MatchOption result (StepGoesOn step) (EndsAtStep step count)
      → EndedFor whys.Full step → h ≡ TurnedAway count → IsSent line.written line2.written (queued ++ step_bytes step) queued2
      → EmptiesAtEnd step queued2
      → MatchOption result (AwaitsKey r limits opening shown start first pass after marks2 rest queued2 line2)
      (λ end. IsServedCall r limits opening shown start first pass marks2 line2 end)
  turns_away count None ends full told sent none = absurd (subst StepGoesOn full.1 ends)
  turns_away count (Some end) ends full told sent none =
      ends_at count ends.why end ends.ends ends.ended (λ _. told) sent (none ends.why ends.ended)

module _ {S : Type 0} (r : rules.Ghosts S CentreState IrcRequest CentreRecord IrcReply) (limits : Limits) (opening : List CentreRecord)
    (shown : Option ℕ) (start : Standing CentreRecord) (first : LineState) (pass : Standing CentreRecord) (call : CallState)
    (marks : List ℕ) where
  -- nothing is owed
  pub rests : (rest queued : List ℕ) (line : LineState) → InCall r limits opening shown start first pass call marks rest queued line
      → wish_in call.phase ≡ None → AwaitsKey r limits opening shown start first pass call marks rest queued line
  rests rest queued line here none = record { in_call = here; listens = listening call.phase none here.lasts }

  -- keys are read
  pub reads_on : (old keyed new queued : List ℕ) (line line2 : LineState)
      → InCall r limits opening shown start first pass call marks old queued line
      → ((f : Option (List ℕ)) (keys : List ℕ) → Appends f line.taken (keys ++ old) → Appends f line2.taken ((keys ++ keyed) ++ new))
      → line2.written ≡ line.written → line.read_faults ≤ line2.read_faults → line.write_faults ≤ line2.write_faults
      → InCall r limits opening shown start first pass call marks (keyed ++ new) queued line2
  reads_on old keyed new queued line line2 here keys written reads writes = record {
    last = here.last;
    talked = here.talked;
    talks = here.talks;
    own = here.own;
    lasts = here.lasts;
    marked = here.marked;
    keys = subst (λ (l : List ℕ). Appends first.taken line2.taken l) (append_assoc here.talked.keys keyed new)
        (keys first.taken here.talked.keys here.keys);
    sent = subst (λ (t : Option (List ℕ)). IsSent first.written t here.talked.sent queued) (sym written) here.sent;
    reads = omega (arith, here.reads, reads);
    writes = omega (arith, here.writes, writes);
  }

  -- all that was queued is written
  pub flushes : (rest queued queued2 : List ℕ) (line line2 : LineState)
      → InCall r limits opening shown start first pass call marks rest queued line
      → Appends line.written line2.written queued → queued2 ≡ [] → line2.taken ≡ line.taken → line.read_faults ≤ line2.read_faults
      → line.write_faults ≤ line2.write_faults → InCall r limits opening shown start first pass call marks rest queued2 line2
  flushes rest queued queued2 line line2 here wrote none taken reads writes = record {
    last = here.last;
    talked = here.talked;
    talks = here.talks;
    own = here.own;
    lasts = here.lasts;
    marked = here.marked;
    keys = subst (λ (t : Option (List ℕ)). Appends first.taken t (here.talked.keys ++ rest)) (sym taken) here.keys;
    sent = sends_on first.written line.written line2.written here.talked.sent queued here.sent queued2
        (all_written line.written line2.written queued queued2 wrote none);
    reads = omega (arith, here.reads, reads);
    writes = omega (arith, here.writes, writes);
  }

  -- or that write failed
  pub unwritten : {D F : Type 0} → (rest queued : List ℕ) (line line2 : LineState)
      → InCall r limits opening shown start first pass call marks rest queued line
      → (n : ℕ) → Appends line.written line2.written (take n queued) → line2.taken ≡ line.taken → Rose line.write_faults line2.write_faults
      → IsServedCall r limits opening shown {D = D} {F = F} start first pass marks line2 WriteFault
  unwritten rest queued line line2 here n wrote taken rose = record {
    pass = pass;
    call = call;
    last = here.last;
    talked = here.talked;
    rest = rest;
    talks = here.talks;
    marked = here.marked;
    keys = subst (λ (t : Option (List ℕ)). Appends first.taken t (here.talked.keys ++ rest)) (sym taken) here.keys;
    written = cut_short first.written line.written line2.written here.talked.sent queued here.sent n wrote;
    ends = (refl, rose_since first.write_faults line.write_faults line2.write_faults here.writes rose);
  }

  -- the caller hangs up
  pub hangs : {D F : Type 0} → (rest queued : List ℕ) (line : LineState)
      → InCall r limits opening shown start first pass call marks rest queued line
      → queued ≡ [] → call.phase ≡ phases.Listening → rest ≡ [] → line.ended ≡ true
      → IsServedCall r limits opening shown {D = D} {F = F} start first pass marks line Hung
  hangs rest queued line here all listens none ended = record {
    pass = pass;
    call = call;
    last = here.last;
    talked = here.talked;
    rest = rest;
    talks = here.talks;
    marked = here.marked;
    keys = here.keys;
    written = written_all first.written line.written here.talked.sent queued here.sent all;
    ends = (refl, listens, none, ended);
  }

  -- the read of a key fails
  pub unread : {D F : Type 0} → (old rest queued : List ℕ) (line line2 : LineState)
      → InCall r limits opening shown start first pass call marks old queued line
      → InCall r limits opening shown start first pass call marks rest queued line2
      → queued ≡ [] → call.phase ≡ phases.Listening → rest ≡ []
      → Rose line.read_faults line2.read_faults
      → IsServedCall r limits opening shown {D = D} {F = F} start first pass marks line2 ReadFault
  unread old rest queued line line2 before here all listens none rose = record {
    pass = pass;
    call = call;
    last = here.last;
    talked = here.talked;
    rest = rest;
    talks = here.talks;
    marked = here.marked;
    keys = here.keys;
    written = written_all first.written line2.written here.talked.sent queued here.sent all;
    ends = (refl, listens, none, rose_since first.read_faults line.read_faults line2.read_faults before.reads rose);
  }

module _ {S : Type 0} (r : rules.Ghosts S CentreState IrcRequest CentreRecord IrcReply) (limits : Limits) (opening : List CentreRecord)
    (shown : Option ℕ) (start : Standing CentreRecord) (line : LineState) (call : CallState) (marks keys queued : List ℕ)
    (new : call ≡ new_call) where
  -- a call was dialled, and its first screen is queued
  pub dialled : IsCallState new_call → marks ≡ [] → keys ≡ [] → queued ≡ first_talked.sent
      → AwaitsKey r limits opening shown start line start call marks keys queued line
  dialled own none no_keys all = record {
    in_call = record {
      last = Quiet;
      talked = first_talked;
      talks = record { happened = []; talk = (refl, new, refl, refl) };
      own = subst IsCallState (sym new) own;
      lasts = λ over. absurd cc;
      marked = none;
      keys = subst (λ (l : List ℕ). Appends line.taken line.taken l) (sym no_keys) (Appends-nil line.taken);
      sent = none_written line.written line.written first_talked.sent queued refl all;
      reads = omega arith;
      writes = omega arith;
    };
    listens = ap (λ (c : CallState). c.phase) new;
  }
