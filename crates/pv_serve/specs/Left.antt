-- What has become of the disks and doors of a server of which a disk has failed as its nodes were closed.
use denote.Param.{number}
use Rattle.std.specs.Prelude.{◌≡◌, ◌⊎◌, ℕ, List, ◌++◌, Option}
use Rattle.pv_irc.specs.contracts.rules.IrcRulesRules.TheImpl as irc
use Rattle.pv_journal.specs.Journal.{EachImage}
use Rattle.pv_live.specs.Entries.{with_opening}
use Rattle.pv_live.specs.Pass.{Standing}
use Rattle.pv_live.specs.Run.{IsRun}
use Rattle.pv_live.specs.declared.entry.Entry.{Entry}
use Rattle.pv_node.specs.Standing.{DiskStands, Stands}
use Rattle.pv_node.specs.declared.rules.Rules as rules
use Rattle.pv_outside.specs.declared.limits.Limits.{Limits}
use Rattle.pv_outside.specs.declared.reports.Reports as reports
use Rattle.pv_ports.specs.Ends.{LineState}
use Rattle.pv_service.specs.Doors.{DoorReport}
use Rattle.pv_service.specs.declared.port_report.PortReport.{PortReport}
use Rattle.pv_udc.specs.contracts.rules.UdcRulesRules.TheImpl as udc
use Rattle.pv_centres.specs.Opening.{DiskPlaces, all_disks}
use Rattle.pv_centres.specs.Parts.{IfThere}
use Rattle.pv_centres.specs.Served.{EachServes, ServesEachDoor, ServedRows}
use Rattle.pv_serve.specs.Ended.{PlacesInOrder, place_ports}
use Rattle.pv_serve.specs.Kept.{HasKeptCalls, HasKeptSessions}
use Rattle.pv_serve.specs.Serving.{HasDiskFault}
use Rattle.pv_serve.specs.declared.status.ServeStatus.{ServeStatus}

-- A node from its disk on: it was opened with the records that the disk stood for, and stored those of a run after them, which is its log;
-- by these it was served so. Its disk is left: each image that a crash may leave of it stands for all of these, or for these and more,
-- which were in hand.
module _ {S State Request Rec Reply D : Type 0} (r : rules.Ghosts S State Request Rec Reply) (g : reports.Ghosts D) (limits : Limits)
    (Serves : List Rec → List (Entry Rec) → Type 0) where
  pub record NodeLeft (disk left : D) : Type 0 where
    pub opening : List Rec
    pub opened : (records : List Rec) → DiskStands r g disk records → opening ≡ records
    pub log : List (Entry Rec)
    pub run : IsRun r limits opening log
    pub served : Serves opening log
    pub more : List Rec
    pub images : EachImage g left (λ image. Stands r image (with_opening opening log)
        ⊎ Stands r image (with_opening opening log ++ more))

-- each of these doors was served by a port
module _ {Rec L R : Type 0} (HasServed : Standing Rec → L → Standing Rec → L → R → Type 0) where
  pub record HaveServed (old new : List L) (reports : List R) : Type 0 where
    pub passes : List (Standing Rec)
    pub ports : EachServes HasServed old passes new reports

module _ {D F L M : Type 0} (g : reports.Ghosts D) (limits : Limits) (shown : Option ℕ) (caller_of : L → LineState)
    (editor_of : M → LineState) (ports calls : ℕ) where
  -- A server has left its disks, of which one has failed. Over these it opened its nodes, and its ports have served the doors. The disks
  -- that are handed back are theirs, in order, and so are the doors.
  pub record ServerLeft (disks disks' : List D) (callers callers' : List (DoorReport L)) (editors editors' : List (DoorReport M))
      (status : ServeStatus D F) : Type 0 where
    pub failed : HasDiskFault status
    pub places : DiskPlaces D
    pub places_are : disks ≡ all_disks places
    pub in_order : PlacesInOrder places
    pub left : DiskPlaces D
    pub handed_back : disks' ≡ all_disks left
    pub callers_met : List (PortReport D F)
    pub editors_met : List (PortReport D F)
    pub rows : ServedRows (place_ports ports places) callers callers' callers_met
    pub update : IfThere (NodeLeft udc.ghosts g limits (λ opening log. HaveServed (HasKeptSessions udc.ghosts limits opening editor_of log
        calls) editors editors' editors_met)) places.update left.update
    pub first : IfThere (NodeLeft (irc.ghosts (number 0)) g limits (λ opening log. HaveServed (HasKeptCalls (irc.ghosts
        (number 0)) limits opening shown caller_of log calls) rows.olds.first rows.news.first rows.met.first)) places.first left.first
    pub second : IfThere (NodeLeft (irc.ghosts (number 1)) g limits (λ opening log. HaveServed (HasKeptCalls (irc.ghosts
        (number 1)) limits opening shown caller_of log calls) rows.olds.second rows.news.second rows.met.second)) places.second left.second
    pub third : IfThere (NodeLeft (irc.ghosts (number 2)) g limits (λ opening log. HaveServed (HasKeptCalls (irc.ghosts
        (number 2)) limits opening shown caller_of log calls) rows.olds.third rows.news.third rows.met.third)) places.third left.third
    pub fourth : IfThere (NodeLeft (irc.ghosts (number 3)) g limits (λ opening log. HaveServed (HasKeptCalls (irc.ghosts
        (number 3)) limits opening shown caller_of log calls) rows.olds.fourth rows.news.fourth rows.met.fourth)) places.fourth left.fourth
    pub callers_doors : ServesEachDoor calls callers callers' callers_met
    pub editors_doors : ServesEachDoor calls editors editors' editors_met
