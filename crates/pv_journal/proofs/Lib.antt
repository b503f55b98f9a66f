mod Append
pub mod CallerLemmas
mod Calls
mod Counted
mod Crash
mod Facts
mod Gates
pub mod Images
pub mod Moments
mod Packed
mod Reading
mod Settle
mod Unique
