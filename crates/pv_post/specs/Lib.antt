pub mod Boxes
pub mod Item
pub mod Rooms
pub mod Spelling
pub mod Waiting
