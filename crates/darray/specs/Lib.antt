pub mod Pending
pub mod Queries
pub mod Rows
pub mod Select
pub mod Sizes
