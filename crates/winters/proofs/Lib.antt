pub mod Claims
pub mod Spans
pub mod Summing
pub mod Writing
