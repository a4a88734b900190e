pub mod Blocks
pub mod Counts
pub mod Index
pub mod Overflow
pub mod Positions
