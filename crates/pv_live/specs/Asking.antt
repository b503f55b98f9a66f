-- What an ask answers, and what it does to its pass.
use Rattle.std.specs.Prelude.{◌≡◌, ◌⊎◌, ℕ, ◌+◌, ◌<◌, ◌≤◌, List, [], ◌∷◌, ◌++◌, length, Option, Some, None, is_some, option_to_list, Result, Ok, Err, IfSome, MatchOption}
use mathlib.Core.List.{IsPrefix}
use Rattle.pv_outside.specs.declared.limits.Limits.{Limits}
use Rattle.pv_node.specs.declared.rules.Rules as rules
use Rattle.pv_node.specs.declared.decision.Decision.TheVariants.{Answer, Store}
use Rattle.pv_node.specs.declared.decision.Told.{Told}
use Rattle.pv_live.specs.declared.entry.Entry.{Entry}
use Rattle.pv_live.specs.declared.fault.LiveFault.{LiveFault}
use Rattle.pv_live.specs.declared.fault.LiveFault.TheVariants.{Memory, Disk, Full}
use Rattle.pv_live.specs.Entries.{with_opening}
use Rattle.pv_live.specs.Run.{Judges}
use Rattle.pv_live.specs.Pass.{Standing}
use Rattle.pv_live.specs.Board.{Board}

-- the record of an entry is the last one, at this place, and was stored for this pass after all that it had seen
pub record IsStoredFor {Rec : Type 0} (opening : List Rec) (pass : Standing Rec) (log before : List (Entry Rec)) (entry : Entry Rec)
    (place : ℕ) : Type 0 where
  pub last : log ≡ before ++ entry ∷ []
  pub known : IsPrefix pass.seen before
  pub maker : entry.pass ≡ pass.number
  pub counted : place ≡ length opening + length before

-- an ask failed because a call of the disk did
abbrev pub EndsInDiskFault : {T D F : Type 0} → Result T (LiveFault D F) → Type 0
EndsInDiskFault (Err (Disk failure)) = Unit {0}
EndsInDiskFault _ = ⊥

-- The record at this place waits to be published: it is the last one of the node, and was stored for this pass.
abbrev pub Waits : {D State Rec : Type 0} → List Rec → Standing Rec → Board D State Rec → ℕ → Type 0
Waits {D} {State} {Rec} opening pass board place =
    (before : List (Entry Rec)) × (entry : Entry Rec) × IsStoredFor opening pass board.log before entry place × (board.waiting ≡ 1)

-- if the fault is that there was no memory to publish a record that was stored, this holds of its place
abbrev pub IfKept : {D F : Type 0} → LiveFault D F → (ℕ → Type 0) → Type 0
IfKept (Memory (Some place)) P = P place
IfKept _ P = Unit {0}

-- the entry is of the record in hand, and carries the number of the pass whose ask made it
abbrev pub IsOfHand : {D State Rec : Type 0} → Board D State Rec → Entry Rec → Type 0
IsOfHand board entry = (board.node.hand ≡ Some entry.rec) × (entry.pass ≡ board.maker)

-- what is in hand is as it was, with its pass, and the history has not grown
pub record IsHandKept {D State Rec : Type 0} (old new : Board D State Rec) : Type 0 where
  pub hand : new.node.hand ≡ old.node.hand
  pub maker : new.maker ≡ old.maker
  pub log : new.log ≡ old.log

-- What a settling does: the history grows by the record that was in hand, for the pass whose ask made it, or by nothing. Nothing is in
-- hand then, or the same is.
pub record Settles {D State Rec : Type 0} (old new : Board D State Rec) : Type 0 where
  pub settled : Option (Entry Rec)
  pub log : new.log ≡ old.log ++ option_to_list settled
  pub maker : IfSome settled (IsOfHand old)
  pub hand : (new.node.hand ≡ None) ⊎ IsHandKept old new

-- the place of the record that an ask has stored, if its answer gives one
abbrev pub stored_place : {Reply D F : Type 0} → Result (Told Reply) (LiveFault D F) → Option ℕ
stored_place (Ok told) = told.number
stored_place (Err (Memory stored)) = stored
stored_place (Err fault) = None

-- the fault is not that there was no memory to publish
abbrev pub IsUnkept : {D F : Type 0} → LiveFault D F → Type 0
IsUnkept (Memory stored) = ⊥
IsUnkept _ = Unit {0}

-- nothing waits, and the pass has seen all entries
pub record HasSeenAll {D State Rec : Type 0} (old new : Standing Rec) (board : Board D State Rec) : Type 0 where
  pub waiting : board.waiting ≡ 0
  pub published : board.published ≡ board.log
  pub seen : new ≡ record old { seen = board.log }
  pub prefix : IsPrefix old.seen board.log

module _ {S State Request Rec Reply : Type 0} (r : rules.Ghosts S State Request Rec Reply) (limits : Limits) (opening : List Rec) where
  -- nothing is stored for this: the reply is what is decided on the records that the pass has seen now
  pub record HasAnswered (request : Request) (old new : Standing Rec) (reply : Reply) : Type 0 where
    pub told : new.told ≡ old.told
    pub judged : Judges r limits (with_opening opening new.seen) request (Answer reply)

  -- The record at this place is the last one that the pass has seen now. It was stored for this, and the reply is what was decided on the
  -- records before it.
  pub record HasStoredFor (request : Request) (old new : Standing Rec) (reply : Reply) (place : ℕ) : Type 0 where
    pub before : List (Entry Rec)
    pub entry : Entry Rec
    pub stored : IsStoredFor opening old new.seen before entry place
    pub told : new.told ≡ old.told + 1
    pub judged : Judges r limits (with_opening opening before) request (Store entry.rec reply)

  -- what an ask that succeeds has done
  abbrev pub HasAsked : Request → Standing Rec → Standing Rec → Told Reply → Type 0
  HasAsked request old new told = MatchOption told.number (HasAnswered request old new told.reply)
      (HasStoredFor request old new told.reply)

  -- the record in hand is one that this request stores after the history, and is kept for the pass of this number
  pub record HasTaken {D : Type 0} (request : Request) (number : ℕ) (board : Board D State Rec) : Type 0 where
    pub rec : Rec
    pub reply : Reply
    pub hand : board.node.hand ≡ Some rec
    pub maker : board.maker ≡ number
    pub judged : Judges r limits (with_opening opening board.log) request (Store rec reply)

  -- What an ask of the pass of this number does, if its answer gives this place. The history grows by the record that was in hand, for
  -- the pass whose ask made it, and then by the record that is stored at the place, for this pass. What is in hand then was so before,
  -- or was taken for this pass.
  pub record Grows {D : Type 0} (request : Request) (number : ℕ) (place : Option ℕ) (old new : Board D State Rec) : Type 0 where
    pub settled : Option (Entry Rec)
    pub stored : Option (Entry Rec)
    pub log : new.log ≡ old.log ++ (option_to_list settled ++ option_to_list stored)
    pub maker : IfSome settled (IsOfHand old)
    pub own : IfSome stored (λ entry. entry.pass ≡ number)
    pub told : is_some stored ≡ is_some place
    pub hand : (new.node.hand ≡ None) ⊎ (IsHandKept old new ⊎ HasTaken request number new)

  -- the node has as many records as the limit, which the pass has all seen, and the request would store one more
  pub record IsFullFor (request : Request) (new : Standing Rec) (count : ℕ) : Type 0 where
    pub limit : count ≡ limits.records
    pub length : length opening + length new.seen ≡ count
    pub record_to_store : Rec
    pub reply : Reply
    pub judged : Judges r limits (with_opening opening new.seen) request (Store record_to_store reply)

  -- What an ask has done to its pass, if there is this fault. A record that was stored but not published has a place after all that the
  -- pass had seen. If the disk failed the pass knows of fewer records than the limit.
  abbrev pub HasFailed : {D F : Type 0} → Request → Standing Rec → Standing Rec → LiveFault D F → Type 0
  HasFailed request old new (Memory (Some place)) =
      (new.told ≡ old.told + 1) × (new.failed ≡ old.failed) × (length opening + length old.seen ≤ place)
  HasFailed request old new (Memory None) = (new.told ≡ old.told) × (new.failed ≡ old.failed)
  HasFailed request old new (Disk failure) =
      (new.told ≡ old.told) × (new.failed ≡ old.failed + 1) × (length opening + length new.seen < limits.records)
  HasFailed request old new (Full count) = (new.told ≡ old.told) × (new.failed ≡ old.failed) × IsFullFor request new count
