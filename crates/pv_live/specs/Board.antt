-- What a contract sees of the desk: the node, its history, and what is published of it.
use Rattle.std.specs.Prelude.{◌≡◌, ℕ, ◌+◌, ◌≤◌, List, ◌++◌, length, is_some, if◌then◌else◌, Option, option_to_list, IfSome}
use Rattle.pv_outside.specs.declared.limits.TheConstants.{MAX_RECORDS}
use Rattle.pv_outside.specs.declared.limits.Limits.{Limits}
use Rattle.pv_outside.specs.declared.reports.Reports as reports
use Rattle.pv_node.specs.declared.rules.Rules as rules
use Rattle.pv_node.specs.Parts.{Parts}
use Rattle.pv_node.specs.Standing.{StandsFor}
use Rattle.pv_history.specs.History.{Supply}
use Rattle.pv_live.specs.declared.entry.Entry.{Entry}
use Rattle.pv_live.specs.Entries.{with_opening}
use Rattle.pv_live.specs.Run.{IsMade, IsRun}

-- the node, the entries after the opening, those that readers take, how many wait to be published, and the pass whose record is in hand
pub record Board (D State Rec : Type 0) : Type 0 where
  pub node : Parts D State Rec
  pub log : List (Entry Rec)
  pub published : List (Entry Rec)
  pub waiting : ℕ
  pub maker : ℕ

-- what waits to be published: the changes that were handed to the writer, and then the one that it had no memory for
abbrev pub waiting_changes : {A : Type 0} → List A → Option A → List A
waiting_changes pending kept = pending ++ option_to_list kept

-- Whoever adds to the history knows how many entries it has, and has rights for as many as a node may have records.
pub record IsSupplied {Rec : Type 0} (supply : Supply) (log : List (Entry Rec)) : Type 0 where
  pub whole : supply.count ≡ length log
  pub room : MAX_RECORDS ≤ supply.count + supply.left

-- how many records are in hand
abbrev pub count_in_hand : {T : Type 0} → Option T → ℕ
count_in_hand hand = if is_some hand then 1 else 0

module _ {S State Request Rec Reply D : Type 0} (r : rules.Ghosts S State Request Rec Reply) (d : reports.Ghosts D) (limits : Limits)
    (opening : List Rec) where
  -- The node stands for the opening and the history, which is a run, and a record in hand is the next one that a request stores. The
  -- passes were told of some records, and of each of the others an ask has failed.
  pub record IsDesk (node : Parts D State Rec) (log : List (Entry Rec)) (told failed : ℕ) : Type 0 where
    pub stands : StandsFor r d node (with_opening opening log)
    pub limited : r.limits_of node.state ≡ limits
    pub run : IsRun r limits opening log
    pub hand : IfSome node.hand (IsMade r limits (with_opening opening log))
    pub reported : told ≤ length log
    pub accounted : length log + count_in_hand node.hand ≤ told + failed
