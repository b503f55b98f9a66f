-- What a server is handed, and how it ends.
use Rattle.std.specs.Prelude.{◌≡◌, ◌⊎◌, ℕ, ◌+◌, ◌*◌, Bool, true, false, Option, None, Some}
use Rattle.std.proofs.Common.{lit<, lit≤}
use Rattle.pv_node.specs.declared.fault.NodeFault.{NodeFault}
use Rattle.pv_node.specs.declared.fault.NodeFault.TheVariants as faults
use Rattle.pv_outside.specs.declared.limits.Limits.{Limits}
use Rattle.pv_outside.specs.declared.limits.TheConstants.{MAX_FRAMES, MAX_RECORDS}
use Rattle.pv_serve.specs.declared.options.OptionFault.{OptionFault}
use Rattle.pv_serve.specs.declared.options.OptionFault.TheVariants as words
use Rattle.pv_serve.specs.declared.options.ServeOptions.{ServeOptions}
use Rattle.pv_serve.specs.declared.status.ServeStatus.{ServeStatus}
use Rattle.pv_serve.specs.declared.status.ServeStatus.TheVariants.{Usage, NoStart, Memory, Done, Full, DiskFault, DoorFault, Unopened}

-- these counts of disks and doors are those of a server with these options: a disk for each node, and a door for each port
pub record ArePartsOf (options : ServeOptions) (disks callers editors : ℕ) : Type 0 where
  pub nodes : disks ≡ options.centres + 1
  pub callers_count : callers ≡ options.centres * options.ports
  pub editors_count : editors ≡ options.editors

-- the limits of each node
abbrev pub node_limits : Limits
node_limits = record {
  frames = MAX_FRAMES;
  records = MAX_RECORDS;
  frames_in_range = (lit< tt, lit≤ tt);
  records_in_range =
      (lit< tt, lit≤ tt);
}

-- ---- ends

-- the server was begun: its words were not refused, and neither was the start of its threads
abbrev pub WasBegun : {D F : Type 0} → ServeStatus D F → Type 0
WasBegun Usage = ⊥
WasBegun NoStart = ⊥
WasBegun _ = Unit {0}

-- the server has served all that it was to: it is done, or a node is full
abbrev pub HasServedAll : {D F : Type 0} → ServeStatus D F → Type 0
HasServedAll Done = Unit {0}
HasServedAll (Full node count) = Unit {0}
HasServedAll _ = ⊥

-- no call of a disk has failed in the work of a server that has ended so
abbrev pub HasNoDiskFault : {D F : Type 0} → ServeStatus D F → Type 0
HasNoDiskFault Done = Unit {0}
HasNoDiskFault (Full node count) = Unit {0}
HasNoDiskFault DoorFault = Unit {0}
HasNoDiskFault _ = ⊥

-- a call of a disk has failed, as the server says
abbrev pub HasDiskFault : {D F : Type 0} → ServeStatus D F → Type 0
HasDiskFault (DiskFault failure) = Unit {0}
HasDiskFault _ = ⊥

-- everything is handed back: memory did not run out
abbrev pub HandsAllBack : {D F : Type 0} → ServeStatus D F → Type 0
HandsAllBack Memory = ⊥
HandsAllBack _ = Unit {0}

-- this holds of the node that was not opened, and of why not
abbrev pub OnNodeFault : {D F : Type 0} → (ℕ → NodeFault D F → Type 0) → ServeStatus D F → Type 0
OnNodeFault Holds (Unopened node fault) = Holds node fault
OnNodeFault Holds _ = Unit {0}

-- Once threads may start: the server was not begun, since a node was not opened; or it was begun and has ended; or a disk has failed as
-- the nodes were closed, and their disks are left. A disk may also have failed before that or after. If memory ran out nothing is said.
abbrev pub EndsBy : {D F : Type 0} → (NotBegun Ended Left : Type 0) → ServeStatus D F → Type 0
EndsBy NotBegun Ended Left Usage = Unit {0}
EndsBy NotBegun Ended Left NoStart = Unit {0}
EndsBy NotBegun Ended Left Memory = Unit {0}
EndsBy NotBegun Ended Left (Unopened node fault) = NotBegun
EndsBy NotBegun Ended Left (DiskFault failure) = NotBegun ⊎ (Ended ⊎ Left)
EndsBy NotBegun Ended Left _ = Ended

-- with this first node that is full: it is said to be, with as many records as the limit; a server that is done has none
abbrev pub SaysFull : {D F : Type 0} → Option ℕ → ServeStatus D F → Type 0
SaysFull full (Full node count) = (full ≡ Some node) × (count ≡ MAX_RECORDS)
SaysFull full Done = full ≡ None
SaysFull full _ = Unit {0}

-- ---- which end

-- if the words were refused
abbrev pub end_by_words : {D F : Type 0} → OptionFault → ServeStatus D F
end_by_words words.Usage = Usage
end_by_words words.Memory = Memory

-- if a node was not opened
abbrev pub end_by_node : {D F : Type 0} → ℕ → NodeFault D F → ServeStatus D F
end_by_node node faults.Memory = Memory
end_by_node node (faults.Disk failure) = DiskFault failure
end_by_node node fault = Unopened node fault

-- after the work: by whether memory ran out, whether a door failed, the first failure of a disk, and the first node that is full
abbrev pub end_by_work : {D F : Type 0} → Bool → Bool → Option F → Option ℕ → ServeStatus D F
end_by_work true door disk full = Memory
end_by_work false door (Some failure) full = DiskFault failure
end_by_work false true None full = DoorFault
end_by_work false false None (Some node) = Full node MAX_RECORDS
end_by_work false false None None = Done
