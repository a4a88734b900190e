pub mod Answers
pub mod Many
