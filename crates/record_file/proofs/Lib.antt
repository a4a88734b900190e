-- Laws of the definitions of `specs/`.
pub mod Summing
pub mod Claims
pub mod Restoring
