pub mod Demand2
pub mod Demand3
pub mod Going
pub mod Memory
pub mod Model
pub mod Resume
pub mod Run
