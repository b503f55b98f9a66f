pub mod About
pub mod Program
pub mod Task
pub mod Wrong
