pub mod Composing
pub mod Grid
pub mod Painting
pub mod Showing
pub mod Terminal
