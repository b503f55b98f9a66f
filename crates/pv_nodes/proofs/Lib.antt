mod Asked
pub mod Below
mod Opened
mod Spelled
mod Stopped
