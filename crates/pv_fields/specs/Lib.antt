pub mod Out
pub mod Padded
pub mod Reading
pub mod Refusals
