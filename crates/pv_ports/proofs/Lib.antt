mod Carrying
mod Causing
mod Counting
mod Ending
mod Facts
pub mod Growing
pub mod Holding
mod Judging
mod Laws
mod Numbering
mod Phases
mod Righting
mod Rounds
mod Seeing
mod Sending
mod Sessions
mod Settling
mod Talking
mod Walking
