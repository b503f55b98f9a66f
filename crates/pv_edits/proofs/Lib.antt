mod Accounts
pub mod CallerLemmas
mod Counting
mod Facts
mod Growing
mod LastIndex
mod LastRecord
mod Leases
mod Lots
pub mod Lengths
mod OneSpelling
mod Prefixes
mod Search
mod Seeing
