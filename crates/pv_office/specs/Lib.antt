pub mod Options
pub mod Statements
pub mod Status
pub mod Tapes
pub use Rattle.pv_node.specs.Standing
