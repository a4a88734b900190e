pub mod Building
pub mod Items
pub mod Rows
pub mod Sums
