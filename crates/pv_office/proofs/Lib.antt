mod Counts
mod Ends
mod Facts
mod Loads
mod Words
