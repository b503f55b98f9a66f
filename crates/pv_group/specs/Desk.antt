-- What a contract sees of the desk, at which requests are decided ahead of the disk.
use Rattle.std.specs.Prelude.{◌≡◌, ℕ, ◌+◌, ◌≤◌, List, [], ◌∷◌, ◌++◌, length, map, All}
use mathlib.Core.List.{IsPrefix}
use Rattle.pv_outside.specs.declared.limits.Limits.{Limits}
use Rattle.pv_journal.specs.Batch.{Pack, HasPacked}
use Rattle.pv_node.specs.declared.rules.Rules as rules
use Rattle.pv_node.specs.Standing.{Meets}
use Rattle.pv_live.specs.declared.entry.Entry.{Entry}
use Rattle.pv_live.specs.Entries.{records_in, with_opening}
use Rattle.pv_live.specs.Run.{IsStateOf, IsRun}

-- The state of all that was decided; the entries that it has taken in after the opening; how many of them were taken from the desk to be
-- stored; the bodies of the others; the entries that readers take; and how many were not handed to the writer of the readers' copies.
pub record DeskView (State Rec : Type 0) : Type 0 where
  pub state : State
  pub log : List (Entry Rec)
  pub taken : ℕ
  pub staged : Pack
  pub published : List (Entry Rec)
  pub waiting : ℕ

-- readers take some of these entries, and the writer of their copies has no others
pub record ShowsOnly {State Rec : Type 0} (desk : DeskView State Rec) (stored : List (Entry Rec)) : Type 0 where
  pub published : IsPrefix desk.published stored
  pub handed : length desk.log ≤ length stored + desk.waiting

-- these changes, one after the other, each add one entry, and lead from the first list to the last
abbrev pub AddsUpTo : {Rec Change : Type 0} → (List (Entry Rec) → Change → List (Entry Rec)) → List (Entry Rec) → List Change
    → List (Entry Rec) → Type 0
AddsUpTo applied first [] last = first ≡ last
AddsUpTo {Rec} applied first (change ∷ changes) last =
    ((entry : Entry Rec) × (applied first change ≡ first ++ entry ∷ [])) × AddsUpTo applied (applied first change) changes last

module _ {S State Request Rec Reply : Type 0} (r : rules.Ghosts S State Request Rec Reply) where
  -- the spellings of the records of these entries
  abbrev pub bodies_of : List (Entry Rec) → List (List ℕ)
  bodies_of log = map r.spelling (records_in log)

  -- the batch has the bodies of all entries but the first ones, which were taken from the desk
  pub record IsStaged (log : List (Entry Rec)) (taken : ℕ) (staged : Pack) : Type 0 where
    pub before : List (Entry Rec)
    pub group : List (Entry Rec)
    pub log_is : log ≡ before ++ group
    pub taken_is : taken ≡ length before
    pub packed : HasPacked staged (bodies_of group)

module _ {S State Request Rec Reply : Type 0} (r : rules.Ghosts S State Request Rec Reply) (limits : Limits) (opening : List Rec) where
  -- The state is that of the opening and of these entries, which are a run within the limits. Asks reported some of them as stored, and
  -- of each of the others an ask has failed.
  pub record IsAhead (state : State) (log : List (Entry Rec)) (told failed : ℕ) : Type 0 where
    pub state_of : IsStateOf r limits state (with_opening opening log)
    pub run : IsRun r limits opening log
    pub each : All r.is_record (with_opening opening log)
    pub meets : Meets r limits (with_opening opening log)
    pub reported : told ≤ length log
    pub accounted : length log ≤ told + failed
