pub mod Last
pub mod Overwrite
pub mod Packed
pub mod Runs
pub mod Search
pub mod Stores
pub mod Valid
pub mod Windows
