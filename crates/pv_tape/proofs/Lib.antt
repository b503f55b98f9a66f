mod AfterRun
mod Ahead
mod AskedEdit
pub mod CallerLemmas
mod Facts
mod Going
mod Loaded
mod Progressing
mod Reading
mod Runs
mod Settled
