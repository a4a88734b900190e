pub mod Ask
pub mod Build
pub mod Opened
pub mod Rows
