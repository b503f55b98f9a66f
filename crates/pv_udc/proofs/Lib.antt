mod BillsKept
pub mod CallerLemmas
mod Facts
mod Growing
mod LastEdits
mod Least
mod Linking
mod Numbering
mod Repeating
mod ReplyLists
mod Replying
