pub mod Answering
pub mod Cases
pub mod Plain
pub mod Vectors
pub mod Written
