-- The nodes of a server, as they are opened.
use Rattle.std.specs.Prelude.{◌≡◌, ℕ, ◌+◌, ◌≤◌, List, [], ◌∷◌, ◌++◌, Option, None, Some, option_to_list}
use Rattle.pv_outside.specs.declared.limits.Limits.{Limits}
use Rattle.pv_outside.specs.declared.reports.Reports as reports
use Rattle.pv_node.specs.declared.rules.Rules as rules
use Rattle.pv_node.specs.Parts.{Parts}
use Rattle.pv_journal.specs.Journal.{LeavesOnly}
use Rattle.pv_node.specs.Standing.{DiskStands, StandsFor}
use Rattle.pv_centres.specs.Parts.{PerCentre}
use Rattle.pv_centres.specs.declared.nodes.OpenedNodes.{OpenedNodes}

-- what there is of it, if it is there, and else nothing
abbrev pub weigh : {T : Type 0} → (T → ℕ) → Option T → ℕ
weigh f None = 0
weigh f (Some there) = f there

-- one if it is there, and else none
abbrev pub count_of : {T : Type 0} → Option T → ℕ
count_of = weigh (λ there. 1)

-- the disk of a place: that of its node, once this is opened
abbrev pub disk_at : {D T : Type 0} → (T → D) → Option D → Option T → Option D
disk_at disk_of disk None = disk
disk_at disk_of disk (Some opened) = Some (disk_of opened)

-- how many centres a network has
abbrev pub centre_count : {D F : Type 0} → OpenedNodes D F → ℕ
centre_count nodes = count_of nodes.first + count_of nodes.second + count_of nodes.third + count_of nodes.fourth

-- how many ports each centre has, if each that is there has this many
abbrev pub port_counts : {D F : Type 0} → ℕ → OpenedNodes D F → PerCentre ℕ
port_counts ports nodes = record {
  first = weigh (λ there. ports) nodes.first;
  second = weigh (λ there. ports) nodes.second;
  third = weigh (λ there. ports) nodes.third;
  fourth = weigh (λ there. ports) nodes.fourth;
}

-- the centres that a network has come first
pub record AreInOrder {D F : Type 0} (nodes : OpenedNodes D F) : Type 0 where
  pub second : count_of nodes.second ≤ count_of nodes.first
  pub third : count_of nodes.third ≤ count_of nodes.second
  pub fourth : count_of nodes.fourth ≤ count_of nodes.third

-- a disk of each node of a network, if it is there
pub record DiskPlaces (D : Type 0) : Type 0 where
  pub update : Option D
  pub first : Option D
  pub second : Option D
  pub third : Option D
  pub fourth : Option D

-- all of them, in order
abbrev pub all_disks : {D : Type 0} → DiskPlaces D → List D
all_disks places = option_to_list places.update ++ (option_to_list places.first ++ (option_to_list places.second
    ++ (option_to_list places.third ++ option_to_list places.fourth)))

module _ {D : Type 0} (g : reports.Ghosts D) where
  -- a crash leaves of the new disk only what it might have left of the old one
  abbrev pub KeepsDisk : D → D → Type 0
  KeepsDisk old new = LeavesOnly g old new (g.may_leave old)

  -- so it is of each of these disks
  abbrev pub KeepsDisks : List D → List D → Type 0
  KeepsDisks [] [] = Unit {0}
  KeepsDisks (old ∷ olds) (new ∷ news) = KeepsDisk old new × KeepsDisks olds news
  KeepsDisks _ _ = ⊥

-- A node was opened over this disk, which reads as before: what the disk stood for, the node stands for.
module _ {S State Request Rec Reply D : Type 0} (r : rules.Ghosts S State Request Rec Reply) (g : reports.Ghosts D) where
  pub record IsOpenedOver (disk : D) (node : Parts D State Rec) : Type 0 where
    pub found : (records : List Rec) → DiskStands r g disk records → StandsFor r g node records
    pub same : g.reads node.journal.disk ≡ g.reads disk
    pub kept : KeepsDisk g disk node.journal.disk

-- A node is ready for a run: it has these records and limits, and none in hand.
module _ {S State Request Rec Reply D : Type 0} (r : rules.Ghosts S State Request Rec Reply) (g : reports.Ghosts D) where
  pub record IsReady (opening : List Rec) (limits : Limits) (node : Parts D State Rec) : Type 0 where
    pub stands : StandsFor r g node opening
    pub at_rest : node.hand ≡ None
    pub limited : r.limits_of node.state ≡ limits
