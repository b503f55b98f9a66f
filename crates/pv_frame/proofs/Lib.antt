pub mod CallerLemmas
pub mod Cells
pub mod Facts
pub mod Fours
pub mod Inverses
pub mod Lengths
pub mod Meaning
pub mod OneSpelling
pub mod Padding
mod Parts
pub mod RoundTrip
pub mod Rows
pub mod Searching
pub mod Vocabulary
