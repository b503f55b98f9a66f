pub mod CallerLemmas
mod Facts
mod Rising
