pub use Rattle.pv_fields.specs.Out
pub mod Mosaic
pub mod Notation
pub mod Row
