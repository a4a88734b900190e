pub mod Searching
pub mod Walking
