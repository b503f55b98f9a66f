mod Boxes
pub mod CallerLemmas
mod Facts
mod Filling
mod Keeping
mod Waiting
