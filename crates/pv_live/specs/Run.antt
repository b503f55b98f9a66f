-- Which records a node stores between its opening and its closing.
use Rattle.std.specs.Prelude.{◌≡◌, ◌<◌, ◌≤◌, List, [], ◌∷◌, ◌++◌, length}
use Rattle.std.proofs.Common.{arith}
use Rattle.pv_outside.specs.declared.limits.TheConstants.{MAX_FRAMES, MAX_RECORDS}
use Rattle.pv_outside.specs.declared.limits.Limits.{Limits}
use Rattle.pv_node.specs.declared.rules.Rules as rules
use Rattle.pv_node.specs.declared.decision.Decision.{Decision}
use Rattle.pv_node.specs.declared.decision.Decision.TheVariants.{Store}
use Rattle.pv_live.specs.declared.entry.Entry.{Entry}
use Rattle.pv_live.specs.Entries.{with_opening}

-- one frame is within the range of limits
pub one_frame : (0 < 1) × (1 ≤ MAX_FRAMES)
one_frame = (omega arith, omega arith)

-- so is one record
pub one_record : (0 < 1) × (1 ≤ MAX_RECORDS)
one_record = (omega arith, omega arith)

module _ {S State Request Rec Reply : Type 0} (r : rules.Ghosts S State Request Rec Reply) (limits : Limits) where
  -- the state has these limits and stands for these records
  pub record IsStateOf (state : State) (records : List Rec) : Type 0 where
    pub stands : r.stands state records
    pub limited : r.limits_of state ≡ limits

  -- this is decided on the request at a state of these records: by the rules' laws, at each
  abbrev pub Judges : List Rec → Request → Decision Rec Reply → Type 0
  Judges records request decision = (state : State) × IsStateOf state records × (r.judgement state request ≡ decision)

  -- some request stores this record after these, which are fewer than the limit
  pub record IsMade (before : List Rec) (rec : Rec) : Type 0 where
    pub request : Request
    pub reply : Reply
    pub valid : r.is_request request
    pub judged : Judges before request (Store rec reply)
    pub within : length before < limits.records

  -- each record after the opening is one that some request stores after those before it
  abbrev pub IsRun : List Rec → List (Entry Rec) → Type 0
  IsRun opening log = (before after : List (Entry Rec)) (entry : Entry Rec) → log ≡ before ++ entry ∷ after
      → IsMade (with_opening opening before) entry.rec

  -- these entries end with one that some request stores after those before it
  pub record EndsWith (opening : List Rec) (log : List (Entry Rec)) (entry : Entry Rec) : Type 0 where
    pub before : List (Entry Rec)
    pub is : log ≡ before ++ entry ∷ []
    pub made : IsMade (with_opening opening before) entry.rec
