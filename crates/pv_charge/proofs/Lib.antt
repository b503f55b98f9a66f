pub mod CallerLemmas
mod Facts
