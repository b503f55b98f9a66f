pub mod Coming
pub mod Doors
pub mod Moment
pub mod Output
pub mod Piece
