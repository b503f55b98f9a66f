mod Facts
mod Parting
mod Pushes
mod Refusing
mod SoFar
mod Turns
