-- What a node answers, and what it stands for then.
use Rattle.std.specs.Prelude.{◌≡◌, ◌≢◌, ◌⊎◌, ℕ, ◌<◌, List, [], ◌∷◌, ◌++◌, Option, Some, None, Result, Ok, Err}
use Rattle.pv_outside.specs.Disk.{HasCalls}
use Rattle.pv_outside.specs.declared.reports.Reports as reports
use Rattle.pv_journal.specs.Journal.{LeavesOnly, HasMade, Spends}
use Rattle.pv_journal.specs.Log.{longest}
use Rattle.pv_node.specs.declared.rules.Rules as rules
use Rattle.pv_node.specs.declared.decision.Decision.{Decision}
use Rattle.pv_node.specs.declared.decision.Decision.TheVariants.{Answer, Store}
use Rattle.pv_node.specs.declared.decision.Told.{Told}
use Rattle.pv_node.specs.declared.fault.AskFault.{AskFault}
use Rattle.pv_node.specs.declared.fault.AskFault.TheVariants.{Disk, Full}
use Rattle.pv_node.specs.Parts.{Parts}
use Rattle.pv_node.specs.Standing.{Stands, StandsEither, StandsFor, KeepsAll, Gains}

-- a call of the disk failed in the ask
abbrev pub IsAskDiskFault : {D F : Type 0} → AskFault D F → Type 0
IsAskDiskFault (Disk failure) = Unit {0}
IsAskDiskFault (Full count) = ⊥

-- the result is that a call of the disk failed
abbrev pub AskFailsOnDisk : {T D F : Type 0} → Result T (AskFault D F) → Type 0
AskFailsOnDisk (Ok told) = ⊥
AskFailsOnDisk (Err fault) = IsAskDiskFault fault

-- the record that is to be stored
abbrev pub to_store : {Rec Reply : Type 0} → Decision Rec Reply → Option Rec
to_store (Answer reply) = None
to_store (Store rec reply) = Some rec

-- these records, and after them one that was stored
abbrev pub records_with : {Rec : Type 0} → List Rec → Option Rec → List Rec
records_with records None = records
records_with records (Some rec) = records ++ rec ∷ []

module _ {S State Request Rec Reply : Type 0} (r : rules.Ghosts S State Request Rec Reply) where
  -- a record that is to be stored has a spelling, and has room in this state
  abbrev pub CanStore : State → Decision Rec Reply → Type 0
  CanStore state (Answer reply) = Unit {0}
  CanStore state (Store rec reply) = r.is_record rec × r.fits state rec

  -- there are `count` records, which is the limit, and nothing has changed
  pub record IsAtLimit {D : Type 0} (old new : Parts D State Rec) (count : ℕ) : Type 0 where
    pub counted : old.journal.count ≡ count
    pub limit : count ≡ (r.limits_of old.state).records
    pub same : new ≡ old

module _ {S State Request Rec Reply D : Type 0} (r : rules.Ghosts S State Request Rec Reply) (g : reports.Ghosts D) where
  -- nothing was in hand, or what was is not stored
  pub record IsNotStored (old new : Parts D State Rec) : Type 0 where
    pub hand : new.hand ≡ None
    pub state : new.state ≡ old.state
    pub count : new.journal.count ≡ old.journal.count
    pub records : KeepsAll r g old new
    pub same : old.hand ≡ None → new ≡ old

  -- this record was in hand and is stored
  pub record IsStored (old new : Parts D State Rec) (rec : Rec) : Type 0 where
    pub was : old.hand ≡ Some rec
    pub hand : new.hand ≡ None
    pub state : new.state ≡ r.after old.state rec old.journal.count
    pub records : Gains r g old new rec

  -- what a settling returns
  abbrev pub IsSettled : Parts D State Rec → Parts D State Rec → Option Rec → Type 0
  IsSettled old new None = IsNotStored old new
  IsSettled old new (Some rec) = IsStored old new rec

  -- a call of the disk failed in a settling: what was in hand still is, and nothing has changed but the disk
  pub record IsUnsettled (old new : Parts D State Rec) : Type 0 where
    pub was : old.hand ≢ None
    pub hand : new.hand ≡ old.hand
    pub state : new.state ≡ old.state
    pub journal : new.journal ≡ record old.journal { disk = new.journal.disk }
    pub records : KeepsAll r g old new

  -- this record is stored, after those that there were, by four calls of the disk
  pub record HasStored (old new : Parts D State Rec) (rec : Rec) : Type 0 where
    pub room : old.journal.count < (r.limits_of old.state).records
    pub hand : new.hand ≡ None
    pub state : new.state ≡ r.after old.state rec old.journal.count
    pub made : HasMade g 4 old.journal.disk new.journal.disk
    pub records : Gains r g old new rec

  -- there was room, and a call of the disk failed while this record was being stored: it is in hand
  pub record IsTaken (old new : Parts D State Rec) (rec : Rec) : Type 0 where
    pub room : old.journal.count < (r.limits_of old.state).records
    pub hand : new.hand ≡ Some rec
    pub state : new.state ≡ old.state
    pub count : new.journal.count ≡ old.journal.count
    pub records : KeepsAll r g old new

  -- why this record is not stored: a call of the disk failed, or the node is full
  abbrev pub IsRefused : {F : Type 0} → Parts D State Rec → Parts D State Rec → Rec → AskFault D F → Type 0
  IsRefused old new rec (Disk failure) = IsTaken old new rec
  IsRefused old new rec (Full count) = IsAtLimit r old new count

  -- What is returned if this was decided, at a node that has nothing in hand: the reply, once the record is stored, with its
  -- place; or Full; or a failure of the disk.
  abbrev pub CarriesOut : {F : Type 0} → Decision Rec Reply → Parts D State Rec → Parts D State Rec
      → Result (Told Reply) (AskFault D F) → Type 0
  CarriesOut (Answer reply) old new result = (result ≡ Ok (record { reply = reply; number = None })) × (new ≡ old)
  CarriesOut (Store rec reply) old new (Ok told) =
      (told ≡ record { reply = reply; number = Some old.journal.count }) × HasStored old new rec
  CarriesOut (Store rec reply) old new (Err fault) = IsRefused old new rec fault

  -- What an ask returns: a call of the disk failed in the settling; or the node was settled, and the judgement of the settled
  -- node is carried out.
  abbrev pub AskReturns : {F : Type 0} → Request → Parts D State Rec → Parts D State Rec
      → Result (Told Reply) (AskFault D F) → Type 0
  AskReturns request old new result = (IsUnsettled old new × AskFailsOnDisk result)
      ⊎ ((settled : Parts D State Rec) × (stored : Option Rec) × IsSettled old settled stored
      × CarriesOut (r.judgement settled.state request) settled new result)

  -- What a crash at some moment of an ask may leave: an image that stands for the records, perhaps with the one in hand; or one
  -- that stands for those of the settled node, perhaps with the one that is to be stored then.
  abbrev pub AskLeaves : Request → Parts D State Rec → List Rec → List ℕ → Type 0
  AskLeaves request old records image = StandsEither r records old.hand image
      ⊎ ((settled : Parts D State Rec) × (stored : Option Rec) × IsSettled old settled stored
      × StandsEither r (records_with records stored) (to_store (r.judgement settled.state request)) image)

  -- What an ask, or a part of it, takes of the disk, of which at most `most` calls succeed. The rest holds if nothing was in hand.
  pub record SpendsOnAsk {T F : Type 0} (most : ℕ) (old new : Parts D State Rec) (result : Result T (AskFault D F)) : Type 0 where
    pub spends : Spends g most (AskFailsOnDisk result) old.journal.disk new.journal.disk
    -- no call fails while four are left, and there is room for all records
    pub passes : old.hand ≡ None → (records : List Rec) → StandsFor r g old records
        → HasCalls 4 (longest (r.limits_of old.state).records) (g.budget old.journal.disk) → AskFailsOnDisk result → ⊥
    -- until two calls have succeeded, a crash at any moment leaves the records that there were
    pub early : old.hand ≡ None → (records : List Rec) → StandsFor r g old records
        → HasMade g 2 old.journal.disk new.journal.disk
        ⊎ LeavesOnly g old.journal.disk new.journal.disk (λ image. Stands r image records)
