pub mod AnyNode
pub mod Below
pub mod Cutting
pub mod Nodes
pub mod OnDisk
pub use Rattle.pv_node.specs.Asking
pub use Rattle.pv_node.specs.Standing
pub use Rattle.pv_memory.specs.Medium
