pub mod Serving
mod Carrying
