pub mod Asking
pub mod Board
pub mod Closing
pub mod Entries
pub mod Opening
pub mod Pass
pub mod Run
