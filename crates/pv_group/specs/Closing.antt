-- What is left of a node if a call of its disk fails at the closing.
use Rattle.std.specs.Prelude.{◌≡◌, ◌⊎◌, ◌+◌, ◌<◌, ◌≤◌, true, List, ◌++◌, length}
use Rattle.pv_outside.specs.declared.limits.Limits.{Limits}
use Rattle.pv_outside.specs.declared.reports.Reports as reports
use Rattle.pv_journal.specs.Journal.{EachImage}
use Rattle.pv_node.specs.Standing.{Stands}
use Rattle.pv_node.specs.declared.rules.Rules as rules
use Rattle.pv_live.specs.declared.entry.Entry.{Entry}
use Rattle.pv_live.specs.Entries.{with_opening}
use Rattle.pv_live.specs.Run.{IsRun}
use Rattle.pv_live.specs.Pass.{Standing, told_count, failed_count, EachHasSeenPrefix}
use Rattle.pv_group.specs.declared.outcome.LeftDisk.{LeftDisk}

module _ {S State Request Rec Reply D F : Type 0} (r : rules.Ghosts S State Request Rec Reply) (d : reports.Ghosts D) (limits : Limits)
    (opening : List Rec) (passes : List (Standing Rec)) where
  -- All that was decided is a run: what is stored, then a group, then what waits to be stored. Whatever a crash leaves of the disk stands
  -- for what is stored, or for that with the whole group. Each pass has seen a prefix of the run, and if that was counted, of what is
  -- stored. No more records are counted as stored than the run has, and of each of the others an ask has failed. A call of the disk has
  -- failed.
  pub record IsDiskLeft (left : LeftDisk D F) : Type 0 where
    pub log : List (Entry Rec)
    pub stored : List (Entry Rec)
    pub group : List (Entry Rec)
    pub waiting : List (Entry Rec)
    pub log_is : log ≡ (stored ++ group) ++ waiting
    pub run : IsRun r limits opening log
    pub images : EachImage d left.disk (λ image. Stands r image (with_opening opening stored)
        ⊎ Stands r image (with_opening opening (stored ++ group)))
    pub seen : EachHasSeenPrefix log passes
    pub seen_stored : left.seen_is_stored ≡ true → EachHasSeenPrefix stored passes
    pub least : told_count passes ≤ length log
    pub most : length log ≤ told_count passes + failed_count passes
    pub failed : 0 < d.faults left.disk
