-- Laws of the definitions of `specs/`.
pub mod Spans
pub mod Telling
pub mod Walks
