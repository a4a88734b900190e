-- Laws of the definitions of `specs/`.
pub mod Packing
pub mod Claims
pub mod Loading
