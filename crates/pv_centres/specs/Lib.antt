pub mod Carried
pub mod Closed
pub mod Ends
pub mod Opening
pub mod Parts
pub mod Rest
pub mod Rows
pub mod Served
