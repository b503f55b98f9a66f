pub mod Groups
pub mod Profile
