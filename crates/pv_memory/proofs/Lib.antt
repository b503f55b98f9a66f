mod BytesLemmas
mod Calls
mod Facts
mod ImageLemmas
mod Moments
mod PastLemmas
mod PipeLemmas
mod Writes
