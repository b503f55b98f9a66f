pub mod Asked
mod Counting
mod Disks
mod Ended
mod Ending
mod Facts
mod Given
mod Kept
mod Leaving
mod Left
mod Places
mod Server
mod Worded
