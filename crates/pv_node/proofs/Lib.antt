pub mod Records
pub mod Rooms
pub mod Reading
pub mod Standing
pub mod Spending
