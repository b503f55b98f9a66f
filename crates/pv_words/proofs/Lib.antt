pub mod Digits
pub mod FirstLine
pub mod Splitting
pub mod Values
