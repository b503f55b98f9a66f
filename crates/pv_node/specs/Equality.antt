-- What a fault of a node holds: two faults are equal if each of these is.
use Rattle.std.specs.Prelude.{ℕ, List, [], ◌∷◌}
use Rattle.pv_node.specs.declared.fault.NodeFault.{NodeFault}
use Rattle.pv_node.specs.declared.fault.NodeFault.TheVariants.{Memory, Disk, NotFormatted, Broken, TooMany, Unreadable}
use Rattle.pv_node.specs.declared.fault.AskFault.{AskFault}
use Rattle.pv_node.specs.declared.fault.AskFault.TheVariants.{Disk as AskDisk, Full}

module _ {D F : Type 0} where
  -- whether an allocation failed, as one place or none
  abbrev pub memory_faults : NodeFault D F → List ℕ
  memory_faults Memory = 0 ∷ []
  memory_faults _ = []

  -- the failure of the disk, or none
  abbrev pub node_failures : NodeFault D F → List F
  node_failures (Disk failure) = failure ∷ []
  node_failures _ = []

  -- the bytes that are not the mark
  abbrev pub unmarked_bytes : NodeFault D F → List ℕ
  unmarked_bytes (NotFormatted kept) = kept
  unmarked_bytes _ = []

  -- the place of a broken gate
  abbrev pub broken_gates : NodeFault D F → List ℕ
  broken_gates (Broken at) = at ∷ []
  broken_gates _ = []

  -- the limit that a further body is over
  abbrev pub limits_over : NodeFault D F → List ℕ
  limits_over (TooMany count) = count ∷ []
  limits_over _ = []

  -- the place of a body that is no record with room
  abbrev pub unreadable_places : NodeFault D F → List ℕ
  unreadable_places (Unreadable number) = number ∷ []
  unreadable_places _ = []

  -- the failure of the disk in an ask, or none
  abbrev pub ask_failures : AskFault D F → List F
  ask_failures (AskDisk failure) = failure ∷ []
  ask_failures _ = []

  -- the count of a node that is full
  abbrev pub node_counts : AskFault D F → List ℕ
  node_counts (Full count) = count ∷ []
  node_counts _ = []
