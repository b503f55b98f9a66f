mod Blocks
mod Facts
mod Steps
mod Texts
mod Whole
mod Writes
