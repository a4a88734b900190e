pub mod Index
pub mod Positions
pub mod Scan
