mod Facts
mod Rounds
