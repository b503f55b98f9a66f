pub mod Asking
pub mod Caller
pub mod Messages
pub mod Replies
pub mod Socket
