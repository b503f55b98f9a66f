pub mod Codes
pub mod Content
pub mod Errors
pub mod Meaning
pub mod Memory
pub mod Raw
pub mod Reading
pub mod Spelling
