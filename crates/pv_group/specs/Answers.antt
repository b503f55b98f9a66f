-- What is decided on a request, and what an ask gives of it.
use Rattle.std.specs.Prelude.{◌≡◌, ℕ, ◌+◌, List, Option, Some, None, Result, Ok, Err, IfOk, IfErr, OnOk}
use mathlib.Core.List.{IsPrefix}
use Rattle.pv_outside.specs.declared.limits.Limits.{Limits}
use Rattle.pv_node.specs.declared.rules.Rules as rules
use Rattle.pv_node.specs.declared.decision.Told.{Told}
use Rattle.pv_live.specs.declared.entry.Entry.{Entry}
use Rattle.pv_live.specs.declared.fault.LiveFault.{LiveFault}
use Rattle.pv_live.specs.declared.fault.LiveFault.TheVariants as fault
use Rattle.pv_live.specs.Pass.{Standing}
use Rattle.pv_live.specs.Asking.{HasAsked, HasFailed, IsFullFor}
use Rattle.pv_group.specs.declared.outcome.Outcome.{Outcome}
use Rattle.pv_group.specs.declared.outcome.Outcome.TheVariants.{Replied, Full}

-- the place of the record that an outcome has stored
abbrev pub place_of : {Reply : Type 0} → Outcome Reply → Option ℕ
place_of (Replied told) = told.number
place_of (Full count) = None

-- how many records it has stored
abbrev pub stored_by : {Reply : Type 0} → Outcome Reply → ℕ
stored_by outcome = count (place_of outcome)
  where
    count : Option ℕ → ℕ
    count None = 0
    count (Some place) = 1

-- What an ask gives of an outcome once all that it stands on is stored. The pass has seen that then, unless there was no memory to publish it.
abbrev pub GivesOutcome : {Rec Reply D F : Type 0} → Outcome Reply → List (Entry Rec) → Standing Rec → Standing Rec
    → Result (Told Reply) (LiveFault D F) → Type 0
GivesOutcome outcome upto old new (Ok told) = (outcome ≡ Replied told) × (new ≡ record old { seen = upto })
GivesOutcome outcome upto old new (Err (fault.Memory stored)) = (stored ≡ place_of outcome) × (new ≡ old)
GivesOutcome outcome upto old new (Err (fault.Full count)) = (outcome ≡ Full count) × (new ≡ record old { seen = upto })
GivesOutcome outcome upto old new (Err (fault.Disk failure)) = ⊥

-- an ask of this outcome failed on the disk: its record, if it stores one, is not counted as stored any more
pub record IsTakenBack {Rec Reply : Type 0} (outcome : Outcome Reply) (old new : Standing Rec) : Type 0 where
  pub told : new.told + stored_by outcome ≡ old.told
  pub failed : new.failed ≡ old.failed + 1
  pub same : new ≡ record old { told = new.told; failed = new.failed }

-- What an ask is answered. If the disk failed, what was decided is taken back.
abbrev pub AnswersAsk : {Rec Reply D F : Type 0} → Outcome Reply → List (Entry Rec) → Standing Rec → Standing Rec
    → Result (Told Reply) (LiveFault D F) → Type 0
AnswersAsk outcome upto old new (Err (fault.Disk failure)) = IsTakenBack outcome old new
AnswersAsk outcome upto old new result = GivesOutcome outcome upto old new result

-- an ask ended before anything was decided: no memory was found, or the disk failed
abbrev pub EndsBeforeDeciding : {Rec D F : Type 0} → Standing Rec → Standing Rec → LiveFault D F → Type 0
EndsBeforeDeciding old new (fault.Memory stored) = (stored ≡ None) × (new ≡ old)
EndsBeforeDeciding old new (fault.Disk failure) = new ≡ record old { failed = old.failed + 1 }
EndsBeforeDeciding old new (fault.Full count) = ⊥

module _ {S State Request Rec Reply : Type 0} (r : rules.Ghosts S State Request Rec Reply) (limits : Limits) (opening : List Rec) where
  -- what is decided on a request, for a pass that has seen all that this stands on
  abbrev pub IsOutcome : Request → Standing Rec → Standing Rec → Outcome Reply → Type 0
  IsOutcome request old new (Replied told) = HasAsked r limits opening request old new told
  IsOutcome request old new (Full count) = (new.told ≡ old.told) × IsFullFor r limits opening request new count

  -- what an ask has done to its pass, and why it has no answer if it has none
  pub record AskEnds {D F : Type 0} (request : Request) (old new : Standing Rec) (result : Result (Told Reply) (LiveFault D F)) : Type 0 where
    pub told : IfOk result (HasAsked r limits opening request old new)
    pub seen : IsPrefix old.seen new.seen
    pub same : new ≡ record old { seen = new.seen; told = new.told; failed = new.failed }
    pub not_failed : OnOk result (new.failed ≡ old.failed)
    pub failed : IfErr result (HasFailed r limits opening request old new)
