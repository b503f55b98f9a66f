mod Adding
pub mod Bringing
mod Carrying
mod Continuing
mod Disks
mod Filling
pub mod Left
pub mod Passes
mod Rounds
pub mod Served
pub mod Storing
