mod Dates
mod Facts
mod MonthSums
mod Texts
mod Walking
mod Writes
