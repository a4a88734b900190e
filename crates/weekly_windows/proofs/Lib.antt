pub mod Claims
pub mod Counting
pub mod Cutting
pub mod Inserting
pub mod Joining
pub mod Pairs
