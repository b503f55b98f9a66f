mod Answering
pub mod CallerLemmas
mod Facts
mod Keys
mod Laws
mod Machine
