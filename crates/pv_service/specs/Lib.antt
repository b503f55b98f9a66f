pub mod Beside
pub mod Calls
pub mod Chain
pub mod Doors
pub mod Rounds
pub mod Rows
pub mod Serving
pub mod Sessions
