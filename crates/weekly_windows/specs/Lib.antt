pub mod Ordering
pub mod Rows
pub mod Windows
