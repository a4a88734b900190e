-- Definitions that the contracts of `record_file` cite.
pub mod Sum
pub mod Stored
