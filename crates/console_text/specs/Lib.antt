pub mod Line
pub mod Says
pub mod Gathered
pub mod Held
