-- What has become of the nodes of a network as they were closed.
use Rattle.std.specs.Prelude.{◌≡◌, Bool, true, List, ◌∷◌, ◌++◌, Option, None, Some, Result, Ok, Err, IfSome, option_to_list}
use Rattle.std.specs.Option.{option_map}
use Rattle.pv_group.specs.declared.outcome.LeftDisk.{LeftDisk}
use Rattle.pv_node.specs.Parts.{Parts}
use Rattle.pv_centres.specs.Served.{ClosedNode}
use Rattle.pv_centres.specs.declared.closed.ClosedNodes.{ClosedNodes}
use Rattle.pv_centres.specs.declared.nodes.Nodes.{Nodes}

module _ {D F : Type 0} where
  -- all were given back
  pub record AreNodes (closed : ClosedNodes D F) (nodes : Nodes D F) : Type 0 where
    pub update : closed.update ≡ Ok nodes.update
    pub first : closed.first ≡ option_map Ok nodes.first
    pub second : closed.second ≡ option_map Ok nodes.second
    pub third : closed.third ≡ option_map Ok nodes.third
    pub fourth : closed.fourth ≡ option_map Ok nodes.fourth

  -- the disk of what became of a node
  abbrev pub disk_left : {State Rec : Type 0} → ClosedNode D F State Rec → D
  disk_left (Ok node) = node.journal.disk
  disk_left (Err left) = left.disk

  -- a centre's node, if it was given back or the network does not have it
  abbrev pub given_back : {State Rec : Type 0} → Option (ClosedNode D F State Rec) → Result (Option (Parts D State Rec)) (LeftDisk D F)
  given_back None = Ok None
  given_back (Some (Ok node)) = Ok (Some node)
  given_back (Some (Err left)) = Err left

  -- its disk, if the network has it
  abbrev pub disk_of : {State Rec : Type 0} → Result (Option (Parts D State Rec)) (LeftDisk D F) → Option D
  disk_of (Ok None) = None
  disk_of (Ok (Some node)) = Some node.journal.disk
  disk_of (Err left) = Some left.disk

  -- the disks of all, in order
  abbrev pub disks_left : ClosedNodes D F → List D
  disks_left closed = disk_left closed.update ∷ (option_to_list (option_map disk_left closed.first)
      ++ (option_to_list (option_map disk_left closed.second)
      ++ (option_to_list (option_map disk_left closed.third) ++ option_to_list (option_map disk_left closed.fourth))))

  -- if only the disk of a node was given back, it was counted that what the passes have seen is stored
  abbrev pub is_seen_stored : {State Rec : Type 0} → ClosedNode D F State Rec → Bool
  is_seen_stored (Ok node) = true
  is_seen_stored (Err left) = left.seen_is_stored

  -- so it is of each node
  pub record AreSeenStored (closed : ClosedNodes D F) : Type 0 where
    pub update : is_seen_stored closed.update ≡ true
    pub first : IfSome closed.first (λ node. is_seen_stored node ≡ true)
    pub second : IfSome closed.second (λ node. is_seen_stored node ≡ true)
    pub third : IfSome closed.third (λ node. is_seen_stored node ≡ true)
    pub fourth : IfSome closed.fourth (λ node. is_seen_stored node ≡ true)
