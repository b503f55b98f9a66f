-- What is left of a node of which only the disk is handed back.
use Rattle.std.proofs.Common.{◌≡◌, ◌⊎◌, inl, inr, ℕ, true, List, [], ◌∷◌, ◌++◌, Option, None, Some, sym, ap, subst, ◌∙◌, append_assoc}
use Rattle.std.specs.Prelude.{IfSome, option_to_list}
use Rattle.std.specs.Option.{option_map}
use mathlib.Core.List.{IsPrefix}
use Rattle.pv_journal.specs.Journal.{EachImage}
use Rattle.pv_live.specs.Entries.{records_in, with_opening}
use Rattle.pv_live.specs.Run.{IsRun}
use Rattle.pv_live.specs.declared.entry.Entry.{Entry}
use Rattle.pv_group.proofs.Leaving.{records_with}
use Rattle.pv_node.specs.Parts.{Parts}
use Rattle.pv_node.specs.Standing.{DiskStands, Stands, StandsEither}
use Rattle.pv_node.specs.declared.rules.Rules as rules
use Rattle.pv_outside.specs.declared.limits.Limits.{Limits}
use Rattle.pv_outside.specs.declared.reports.Reports as reports
use Rattle.pv_centres.specs.Closed.{disk_left, is_seen_stored}
use Rattle.pv_centres.specs.Opening.{IsOpenedOver, IsReady}
use Rattle.pv_centres.specs.Parts.{IfThere}
use Rattle.pv_centres.specs.Served.{ClosedNode}
use Rattle.pv_serve.specs.Left.{NodeLeft}
use Rattle.pv_serve.proofs.Ended.{opening_is}

-- What is known of a node of which this disk is left: its log is a run, by which it was served so, and each image of the disk stands for
-- all records, or for these and more.
module _ {S State Request Rec Reply D : Type 0} (r : rules.Ghosts S State Request Rec Reply) (g : reports.Ghosts D) (limits : Limits)
    (Served : List (Entry Rec) → Type 0) where
  pub record LeavesSo (opening : List Rec) (left : D) : Type 0 where
    pub log : List (Entry Rec)
    pub run : IsRun r limits opening log
    pub served : Served log
    pub more : List Rec
    pub images : EachImage g left (λ image. Stands r image (with_opening opening log)
        ⊎ Stands r image (with_opening opening log ++ more))

module _ {S State Request Rec Reply : Type 0} (r : rules.Ghosts S State Request Rec Reply) where
  -- the first part of a run is a run
  pub run_prefix : (limits : Limits) (opening : List Rec) (first log : List (Entry Rec)) → IsPrefix first log
      → IsRun r limits opening log → IsRun r limits opening first
  run_prefix limits opening first log prefix run before after entry is =
      run before (after ++ prefix.0) entry
      (sym prefix.1 ∙ (ap (λ (l : List (Entry Rec)). l ++ prefix.0) is ∙ append_assoc before (entry ∷ after) prefix.0))

  -- what is in hand is one record more, or none
  pub with_hand : (records : List Rec) (hand : Option Rec) (image : List ℕ) → StandsEither r records hand image
      → Stands r image records ⊎ Stands r image (records ++ option_to_list hand)
  with_hand records None image stands = inl stands
  with_hand records (Some rec) image stands = stands

  -- so are the records of a group
  pub with_group : {D : Type 0} (d : reports.Ghosts D) (opening : List Rec) (stored group : List (Entry Rec)) (image : List ℕ)
      → Stands r image (with_opening opening stored) ⊎ Stands r image (with_opening opening (stored ++ group))
      → Stands r image (with_opening opening stored) ⊎ Stands r image (with_opening opening stored ++ records_in group)
  with_group d opening stored group image (inl one) = inl one
  with_group d opening stored group image (inr all) = inr (subst (Stands r image) (records_with r d opening stored group) all)

-- a node that was opened over its disk, if it is there, was served and then closed, and its disk is left
module _ {S State Request Rec Reply D F : Type 0} (r : rules.Ghosts S State Request Rec Reply) (g : reports.Ghosts D)
    (one_list : (image : List ℕ) (one other : List Rec) → Stands r image one → Stands r image other → one ≡ other)
    (left : (disk : D) → IfSome (g.reads disk) (g.may_leave disk)) (limits : Limits)
    (Serves : List Rec → ClosedNode D F State Rec → Type 0) (Served : List Rec → List (Entry Rec) → Type 0)
    (leaves : (opening : List Rec) (closed : ClosedNode D F State Rec) → Serves opening closed → is_seen_stored closed ≡ true
    → LeavesSo r g limits (Served opening) opening (disk_left closed)) where
  pub node_has_left : {B : Type 0} (opened : Option B) (node_of : B → Parts D State Rec) (opening_of : B → List Rec) (disk : Option D)
      (closed : Option (ClosedNode D F State Rec)) → IfThere (λ one o. IsOpenedOver r g one (node_of o)) disk opened
      → IfSome opened (λ o. IsReady r g (opening_of o) limits (node_of o)) → IfThere (λ o n. Serves (opening_of o) n) opened closed
      → IfSome closed (λ n. is_seen_stored n ≡ true) → IfThere (NodeLeft r g limits Served) disk (option_map disk_left closed)
  node_has_left None node_of opening_of None None over ready served seen = tt
  node_has_left (Some o) node_of opening_of (Some disk) (Some n) over ready served seen =
      let leave = leaves (opening_of o) n served seen in
      record {
        opening = opening_of o;
        opened = λ records stood. opening_is r g one_list left disk (node_of o)
            (opening_of o) records over ready.stands ready.at_rest stood;
        log = leave.log;
        run = leave.run;
        served = leave.served;
        more = leave.more;
        images = leave.images;
      }
  node_has_left (Some o) node_of opening_of None closed over ready served seen = absurd over
  node_has_left None node_of opening_of (Some disk) closed over ready served seen = absurd over
  node_has_left None node_of opening_of None (Some n) over ready served seen = absurd served
  node_has_left (Some o) node_of opening_of (Some disk) None over ready served seen = absurd served
