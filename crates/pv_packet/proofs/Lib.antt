mod Facts
mod OneSpelling
mod Readings
mod Refusals
