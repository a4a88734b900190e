pub mod Answering
pub mod Below
pub mod Bucket
pub mod Neighbouring
pub mod Opened
pub mod Ranking
pub mod Upper
