-- Laws of the definitions of `specs/`, and what holds of them together.
pub mod Reading
pub mod Writing
pub mod RoundTrip
