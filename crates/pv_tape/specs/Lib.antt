pub mod Laws
pub mod Lines
pub mod Loading
pub mod Running
pub mod Tape
