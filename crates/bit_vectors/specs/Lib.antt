pub mod Inner
pub mod Queries
pub mod Rows
pub mod Walk
