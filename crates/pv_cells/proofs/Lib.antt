mod Canonical
mod Facts
mod Plain
mod Rows
mod Squares
