pub mod CallerLemmas
mod Facts
pub mod Rows
pub mod Runs
