mod Asks
mod Desks
mod Facts
mod Growing
pub mod Lists
pub mod Passes
pub mod States
