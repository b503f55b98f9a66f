mod Applying
mod ByPlaces
mod Delivering
mod Facts
mod Numbering
mod OneSpelling
mod Placing
