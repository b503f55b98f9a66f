pub mod CallerLemmas
pub mod Facts
pub mod Reading
