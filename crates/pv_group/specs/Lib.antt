pub mod Answers
pub mod Closing
pub mod Desk
pub mod Vault
pub mod Run
