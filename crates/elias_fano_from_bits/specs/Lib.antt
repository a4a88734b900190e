pub mod Building
pub mod FromBits
pub mod Rows
