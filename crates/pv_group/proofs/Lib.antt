pub mod Aheads
pub mod Boards
pub mod Endings
pub mod Moments
pub mod Shelves
pub mod Leaving
