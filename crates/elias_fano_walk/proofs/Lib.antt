pub mod Halved
pub mod Lows
pub mod Reading
pub mod Searched
pub mod Steps
pub mod Walked
