pub mod CallerLemmas
mod Decimals
mod Facts
pub mod Spellings
