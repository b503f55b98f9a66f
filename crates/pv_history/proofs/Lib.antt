mod Steps
mod Entries
pub mod CallerLemmas
