pub mod Bringing
pub mod Lacking
