-- A call in progress, and how it ends.
use Rattle.std.specs.Prelude.{◌≡◌, ◌≢◌, ℕ, Bool, true, List, [], ◌∷◌, ◌++◌, ◌≤◌, take, Option, Some, Result, IsErr}
use Rattle.std.specs.Io.KnownBytes.{Appends}
use Rattle.pv_outside.specs.declared.limits.Limits.{Limits}
use Rattle.pv_outside.specs.Counts.{Rose}
use Rattle.pv_outside.specs.declared.source.Source as source
use Rattle.pv_outside.specs.declared.sink.Sink as sink
use Rattle.pv_node.specs.declared.rules.Rules as rules
use Rattle.pv_irc.specs.History.{CentreState}
use Rattle.pv_irc.specs.declared.record.CentreRecord.{CentreRecord}
use Rattle.pv_irc.specs.declared.reply.IrcReply.{IrcReply}
use Rattle.pv_irc.specs.declared.request.IrcRequest.{IrcRequest}
use Rattle.pv_live.specs.Asking.{HasFailed}
use Rattle.pv_live.specs.Pass.{Standing}
use Rattle.pv_live.specs.declared.fault.LiveFault.{LiveFault}
use Rattle.pv_live.specs.declared.fault.LiveFault.TheVariants as faults
use Rattle.pv_screen.specs.declared.screen.Screen.{Screen}
use Rattle.pv_session.specs.Callers.{IsCallState}
use Rattle.pv_session.specs.State.{CallState, wish_in}
use Rattle.pv_session.specs.declared.step.Phase.TheVariants.{Listening, Over}
use Rattle.pv_session.specs.declared.step.Why.{Why}
use Rattle.pv_session.specs.declared.step.Why.TheVariants as whys
use Rattle.pv_session.specs.declared.step.Step.{Step}
use Rattle.pv_session.specs.declared.step.Step.TheVariants as steps
use Rattle.pv_session.specs.declared.step.Wish.{Wish}
use Rattle.pv_wishes.specs.Wishes.{request_for}
use Rattle.pv_ports.specs.Sending.{IsSent}
use Rattle.pv_ports.specs.Talk.{Happening, TurnedAway, Talked, Talks, PassAsks}
use Rattle.pv_ports.specs.declared.end.CallEnd.{CallEnd}
use Rattle.pv_ports.specs.declared.end.CallEnd.TheVariants.{Finished, Hung, Refused, Spent, ReadFault, WriteFault, DiskFault, Full, Memory}

-- what a connection reports: what was read from it, what was written to it, whether its end was met, and its counts of faults
pub record LineState : Type 0 where
  pub taken : Option (List ℕ)
  pub written : Option (List ℕ)
  pub ended : Bool
  pub read_faults : ℕ
  pub write_faults : ℕ

-- what an object reports that is a source and a sink
abbrev pub line_of : {L : Type 0} → source.Ghosts L → sink.Ghosts L → L → LineState
line_of s k line = record {
  taken = s.taken line;
  written = k.written line;
  ended = s.ended line;
  read_faults = s.read_faults line;
  write_faults = k.write_faults line;
}

-- a call that only writes: nothing is read from the connection, and a fault is counted
pub record OnlyWrites {T E : Type 0} (old new : LineState) (result : Result T E) : Type 0 where
  pub taken : new.taken ≡ old.taken
  pub ended : new.ended ≡ old.ended
  pub reads : old.read_faults ≤ new.read_faults
  pub writes : old.write_faults ≤ new.write_faults
  pub failed : IsErr result → Rose old.write_faults new.write_faults

-- the last step ended the call for this reason
abbrev pub EndedFor : Why → Step → Type 0
EndedFor why step = (screen : Screen) × (step ≡ steps.Ended why screen)

-- at a step that ends its call nothing is queued any more
abbrev pub EmptiesAtEnd : Step → List ℕ → Type 0
EmptiesAtEnd step queued = (why : Why) → EndedFor why step → queued ≡ []

-- a step that does not end its call
abbrev pub StepGoesOn : Step → Type 0
StepGoesOn (steps.Ended why screen) = ⊥
StepGoesOn _ = Unit {0}

-- the call ends so at a step that ends it for this reason, at a centre of this many records
abbrev pub EndsFor : {D F : Type 0} → Why → ℕ → CallEnd D F → Type 0
EndsFor whys.Finished count end = end ≡ Finished
EndsFor whys.Refused count end = end ≡ Refused
EndsFor whys.Spent count end = end ≡ Spent
EndsFor whys.Full count end = end ≡ Full count

-- the call ends so at this step, which ends it
pub record EndsAtStep {D F : Type 0} (step : Step) (count : ℕ) (end : CallEnd D F) : Type 0 where
  pub why : Why
  pub ends : EndsFor why count end
  pub ended : EndedFor why step

-- this is the last thing that happened
abbrev pub IsLast : Happening → List Happening → Type 0
IsLast happening [] = ⊥
IsLast happening (last ∷ earlier) = last ≡ happening

-- all bytes were written; or, after a fault of the connection, a part of them from the beginning
abbrev pub IsWritten : {D F : Type 0} → CallEnd D F → Option (List ℕ) → Option (List ℕ) → List ℕ → Type 0
IsWritten WriteFault old new bytes = (n : ℕ) × Appends old new (take n bytes)
IsWritten _ old new bytes = Appends old new bytes

module _ {S : Type 0} (r : rules.Ghosts S CentreState IrcRequest CentreRecord IrcReply) (limits : Limits) (opening : List CentreRecord)
    (shown : Option ℕ) where
  -- A call in progress, since its pass was `start` and its connection `first`. These keys were read and are still to be taken, and these
  -- bytes were made and are still to be written.
  pub record InCall (start : Standing CentreRecord) (first : LineState) (pass : Standing CentreRecord) (call : CallState) (marks : List ℕ)
      (rest queued : List ℕ) (line : LineState) : Type 0 where
    pub last : Step
    pub talked : Talked
    pub talks : Talks r limits opening shown start pass call last talked
    -- what it owes is its own, and it is not over
    pub own : IsCallState call
    pub lasts : call.phase ≢ Over
    pub marked : marks ≡ talked.marks
    pub keys : Appends first.taken line.taken (talked.keys ++ rest)
    pub sent : IsSent first.written line.written talked.sent queued
    pub reads : first.read_faults ≤ line.read_faults
    pub writes : first.write_faults ≤ line.write_faults

  -- a call in progress that owes nothing
  pub record AwaitsKey (start : Standing CentreRecord) (first : LineState) (pass : Standing CentreRecord) (call : CallState)
      (marks rest queued : List ℕ) (line : LineState) : Type 0 where
    pub in_call : InCall start first pass call marks rest queued line
    pub listens : call.phase ≡ Listening

  -- what is owed could not be stored, and this is the fault
  pub record FailsToStore {D F : Type 0} (pass : Standing CentreRecord) (call : CallState) (new : Standing CentreRecord)
      (fault : LiveFault D F) : Type 0 where
    pub wish : Wish
    pub owed : wish_in call.phase ≡ Some wish
    pub asks : PassAsks pass new
    pub failed : HasFailed r limits opening (request_for wish) pass new fault

  -- Why it ended: the pass was this after the last step, and is the new one now. These keys were read and not taken: at a hang-up and at a
  -- read that fails there are none, and nothing is owed.
  abbrev pub EndsAs : {D F : Type 0} → CallEnd D F → List Happening → Standing CentreRecord → CallState → Step → Standing CentreRecord
      → List ℕ → LineState → LineState → Type 0
  EndsAs Finished happened pass call last new rest first line = (new ≡ pass) × EndedFor whys.Finished last
  EndsAs Hung happened pass call last new rest first line =
      (new ≡ pass) × (call.phase ≡ Listening) × (rest ≡ []) × (line.ended ≡ true)
  EndsAs Refused happened pass call last new rest first line = (new ≡ pass) × EndedFor whys.Refused last
  EndsAs Spent happened pass call last new rest first line = (new ≡ pass) × EndedFor whys.Spent last
  EndsAs ReadFault happened pass call last new rest first line =
      (new ≡ pass) × (call.phase ≡ Listening) × (rest ≡ []) × Rose first.read_faults line.read_faults
  EndsAs WriteFault happened pass call last new rest first line = (new ≡ pass) × Rose first.write_faults line.write_faults
  EndsAs {D} {F} (DiskFault failure) happened pass call last new rest first line =
      FailsToStore {D = D} {F = F} pass call new (faults.Disk failure)
  EndsAs (Full count) happened pass call last new rest first line =
      (new ≡ pass) × EndedFor whys.Full last × IsLast (TurnedAway count) happened
  EndsAs {D} {F} (Memory stored) happened pass call last new rest first line =
      FailsToStore {D = D} {F = F} pass call new (faults.Memory stored)

  -- A call that ended so: what happened in it, and which keys were read and not taken.
  pub record IsServedCall {D F : Type 0} (start : Standing CentreRecord) (first : LineState) (new : Standing CentreRecord) (marks : List ℕ)
      (line : LineState) (end : CallEnd D F) : Type 0 where
    pub pass : Standing CentreRecord
    pub call : CallState
    pub last : Step
    pub talked : Talked
    pub rest : List ℕ
    pub talks : Talks r limits opening shown start pass call last talked
    pub marked : marks ≡ talked.marks
    pub keys : Appends first.taken line.taken (talked.keys ++ rest)
    pub written : IsWritten end first.written line.written talked.sent
    pub ends : EndsAs end talks.happened pass call last new rest first line
