pub mod Script
pub mod Sequence
pub mod Writing
