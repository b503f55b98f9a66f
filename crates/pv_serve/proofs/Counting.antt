-- As many disks and doors are handed back as there were.
use Rattle.std.proofs.Common.{◌≡◌, ℕ, ◌+◌, List, [], ◌∷◌, ◌++◌, length, map, Option, None, Some, ◌⊎◌, inl, inr, refl, sym, ap, ◌∙◌, arith}
use Rattle.std.specs.Prelude.{Ok, option_to_list}
use Rattle.std.specs.Option.{option_map}
use Rattle.std.proofs.lemmas.List.{length-append, length-map}
use Rattle.pv_node.specs.Parts.{Parts}
use Rattle.pv_outside.specs.declared.reports.Reports as reports
use Rattle.pv_service.specs.Doors.{DoorReport}
use Rattle.pv_service.specs.declared.port_report.PortReport.{PortReport}
use Rattle.pv_centres.specs.Opening.{KeepsDisks, count_of, weigh}
use Rattle.pv_centres.specs.Served.{ClosedNode, ServesEachDoor}
use Rattle.pv_centres.specs.Closed.{disk_left, disks_left}
use Rattle.pv_centres.specs.declared.closed.ClosedNodes.{ClosedNodes}
use Rattle.pv_centres.specs.declared.nodes.Nodes.{Nodes}
use Rattle.pv_serve.specs.Ended.{AreClosed, AreHandedBack, AreLeft, WouldBeBrought, disks_of}
use Rattle.pv_serve.specs.Serving.{EndsBy, HandsAllBack, WasBegun}
use Rattle.pv_serve.specs.declared.status.ServeStatus.{ServeStatus}
use Rattle.pv_serve.specs.declared.status.ServeStatus.TheVariants.{Usage, NoStart, Memory, Done, Full, DiskFault, DoorFault, Unopened}
use Rattle.pv_serve.proofs.Ended.{same_weight}

-- disks that are kept are as many
pub length_kept : {D : Type 0} (g : reports.Ghosts D) (olds news : List D) → KeepsDisks g olds news → length news ≡ length olds
length_kept g [] [] kept = refl
length_kept g (old ∷ olds) (new ∷ news) (one, kept) = omega (arith, length_kept g olds news kept)
length_kept g [] (new ∷ news) kept = absurd kept
length_kept g (old ∷ olds) [] kept = absurd kept

-- so are doors that were served
length_served : {L D F : Type 0} (calls : ℕ) (olds news : List (DoorReport L)) (met : List (PortReport D F))
    → ServesEachDoor calls olds news met → length news ≡ length olds
length_served calls [] [] [] each = refl
length_served calls (old ∷ olds) (new ∷ news) (one ∷ met) (first, each) = omega (arith, length_served calls olds news met each)
length_served calls [] [] (one ∷ met) each = absurd each
length_served calls [] (new ∷ news) met each = absurd each
length_served calls (old ∷ olds) [] met each = absurd each
length_served calls (old ∷ olds) (new ∷ news) [] each = absurd each

pub doors_back : {O L D F : Type 0} (of : O → DoorReport L) (calls : ℕ) (olds news : List O) (met : List (PortReport D F))
    → ServesEachDoor calls (map of olds) (map of news) met → length news ≡ length olds
doors_back of calls olds news met each =
    sym (length-map news of) ∙ length_served calls (map of olds) (map of news) met each ∙ length-map olds of

-- there is one of what is there
length_there : {X Y : Type 0} (of : X → Y) (x : Option X) → length (option_to_list (option_map of x)) ≡ count_of x
length_there of None = refl
length_there of (Some there) = refl

-- the disks of closed nodes are as many as the nodes
module _ {D F : Type 0} (g : reports.Ghosts D) (status : ServeStatus D F) (closed : Nodes D F) (before after : List D) where
  disks_back : AreHandedBack g status closed before after
      → length after ≡ length before + (count_of closed.first + count_of closed.second + count_of closed.third + count_of closed.fourth
      + 1)
  disks_back back =
      let ended = back.ended in
      let first = option_to_list (option_map (λ n. n.journal.disk) ended.first) in
      let second = option_to_list (option_map (λ n. n.journal.disk) ended.second) in
      let third = option_to_list (option_map (λ n. n.journal.disk) ended.third) in
      let fourth = option_to_list (option_map (λ n. n.journal.disk) ended.fourth) in
      omega (
        arith,
        ap (λ (l : List D). length l) back.disks,
        length-append before (disks_of ended),
        length-append first (second ++ (third ++ fourth)),
        length-append second (third ++ fourth),
        length-append third fourth,
        length_there (λ n. n.journal.disk) ended.first,
        length_there (λ n. n.journal.disk) ended.second,
        length_there (λ n. n.journal.disk) ended.third,
        length_there (λ n. n.journal.disk) ended.fourth,
        same_weight 1 closed.first ended.first (WouldBeBrought g status 0 closed.update ended.update) back.first,
        same_weight 1 closed.second ended.second (WouldBeBrought g status 1 closed.update ended.update) back.second,
        same_weight 1 closed.third ended.third (WouldBeBrought g status 2 closed.update ended.update) back.third,
        same_weight 1 closed.fourth ended.fourth (WouldBeBrought g status 3 closed.update ended.update) back.fourth,
      )

-- what is there is there in another form
count_map : {X Y : Type 0} (of : X → Y) (x : Option X) → count_of (option_map of x) ≡ count_of x
count_map of None = refl
count_map of (Some there) = refl

-- a node that was given back
abbrev given : {D F State Rec : Type 0} → Parts D State Rec → ClosedNode D F State Rec
given node = Ok node

-- the disks of nodes that were closed are as many as the nodes, whether these were given back or not
module _ {D F : Type 0} (g : reports.Ghosts D) (status : ServeStatus D F) (closed : ClosedNodes D F) (before after : List D) where
  pub closed_back : AreClosed g status closed before after ⊎ AreLeft closed before after
      → length after ≡ length before + (count_of closed.first + count_of closed.second + count_of closed.third + count_of closed.fourth
      + 1)
  closed_back (inl is) =
      let nodes = is.nodes in
      omega (
        arith,
        disks_back g status nodes before after is.back,
        ap count_of is.all.first ∙ count_map (given {D = D} {F = F}) nodes.first,
        ap count_of is.all.second ∙ count_map (given {D = D} {F = F}) nodes.second,
        ap count_of is.all.third ∙ count_map (given {D = D} {F = F}) nodes.third,
        ap count_of is.all.fourth ∙ count_map (given {D = D} {F = F}) nodes.fourth,
      )
  closed_back (inr is) =
      let first = option_to_list (option_map disk_left closed.first) in
      let second = option_to_list (option_map disk_left closed.second) in
      let third = option_to_list (option_map disk_left closed.third) in
      let fourth = option_to_list (option_map disk_left closed.fourth) in
      omega (
        arith,
        ap (λ (l : List D). length l) is.disks,
        length-append before (disks_left closed),
        length-append first (second ++ (third ++ fourth)),
        length-append second (third ++ fourth),
        length-append third fourth,
        length_there disk_left closed.first,
        length_there disk_left closed.second,
        length_there disk_left closed.third,
        length_there disk_left closed.fourth,
      )

-- a server that was begun and hands all back has ended, or has left its disks
pub ended_if_back : {D F : Type 0} (Ended Left : Type 0) (status : ServeStatus D F) → WasBegun status → HandsAllBack status
    → EndsBy ⊥ Ended Left status → Ended ⊎ Left
ended_if_back Ended Left Usage begun all ends = absurd begun
ended_if_back Ended Left NoStart begun all ends = absurd begun
ended_if_back Ended Left Memory begun all ends = absurd all
ended_if_back Ended Left (Unopened node fault) begun all ends = absurd ends
ended_if_back Ended Left (DiskFault failure) begun all (inl none) = absurd none
ended_if_back Ended Left (DiskFault failure) begun all (inr either) = either
ended_if_back Ended Left Done begun all ends = inl ends
ended_if_back Ended Left DoorFault begun all ends = inl ends
ended_if_back Ended Left (Full node count) begun all ends = inl ends
