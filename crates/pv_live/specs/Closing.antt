-- What a node has become when it is closed.
use Rattle.std.specs.Prelude.{◌≡◌, ℕ, ◌+◌, ◌≤◌, List, length, IfSome}
use Rattle.pv_outside.specs.declared.limits.Limits.{Limits}
use Rattle.pv_outside.specs.declared.reports.Reports as reports
use Rattle.pv_node.specs.declared.rules.Rules as rules
use Rattle.pv_node.specs.Parts.{Parts}
use Rattle.pv_node.specs.Standing.{StandsFor}
use Rattle.pv_live.specs.declared.entry.Entry.{Entry}
use Rattle.pv_live.specs.Board.{count_in_hand}
use Rattle.pv_live.specs.Entries.{with_opening}
use Rattle.pv_live.specs.Run.{IsMade, IsRun}
use Rattle.pv_live.specs.Pass.{Standing, told_count, failed_count, EachHasSeenPrefix}

module _ {S State Request Rec Reply D : Type 0} (r : rules.Ghosts S State Request Rec Reply) (d : reports.Ghosts D) (limits : Limits)
    (opening : List Rec) (passes : List (Standing Rec)) where
  -- The node has the records of the opening and then those of a history, which is a run, and its limits. Each pass has seen a prefix of it.
  -- Its length is the count of all records that the passes were told of; for each ask that failed on the disk there may be one more. A
  -- record in hand is one that some request stores after all these, and an ask has failed for it.
  pub record IsClosed (node : Parts D State Rec) (asked : ℕ) : Type 0 where
    pub log : List (Entry Rec)
    pub stands : StandsFor r d node (with_opening opening log)
    pub limited : r.limits_of node.state ≡ limits
    pub run : IsRun r limits opening log
    pub hand : IfSome node.hand (IsMade r limits (with_opening opening log))
    pub seen : EachHasSeenPrefix log passes
    pub count : asked ≡ length log
    pub least : told_count passes ≤ asked
    pub most : asked + count_in_hand node.hand ≤ told_count passes + failed_count passes
