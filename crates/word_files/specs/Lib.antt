-- Definitions that the contracts of `word_files` cite.
pub mod Bytes
pub mod Files
