-- What a contract sees of a centre's node, whatever its number.
use Rattle.pv_irc.specs.History.{CentreState}
use Rattle.pv_memory.specs.Medium.{Medium}
use Rattle.pv_node.specs.Parts.{Parts}
use Rattle.pv_nodes.specs.OnDisk.{OnDisk}
use Rattle.pv_nodes.specs.declared.centre.AnyNode.{AnyNode}
use Rattle.pv_nodes.specs.declared.centre.AnyNode.TheVariants.{Zero, One, Two, Three}

-- what a node knows, and its disk
abbrev pub on_disk : {State Rec : Type 0} → Parts Medium State Rec → OnDisk State
on_disk node = record { state = node.state; disk = node.journal.disk }

-- what a centre of any number knows, and its disk
abbrev pub seen_of : AnyNode → OnDisk CentreState
seen_of (Zero node) = on_disk node
seen_of (One node) = on_disk node
seen_of (Two node) = on_disk node
seen_of (Three node) = on_disk node
