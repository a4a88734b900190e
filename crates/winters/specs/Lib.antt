pub mod Adding
pub mod Rows
pub mod Winters
