-- Laws of the definitions of `specs/`.
pub mod Reading
pub mod Gathering
