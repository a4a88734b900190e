pub mod Checks
pub mod Image
pub mod Sizes
pub mod Times
