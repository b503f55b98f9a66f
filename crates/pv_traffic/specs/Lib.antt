pub mod Link
pub mod Packets
