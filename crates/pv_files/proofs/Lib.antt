mod Appending
mod Passing
