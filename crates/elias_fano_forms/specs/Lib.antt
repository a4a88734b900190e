pub mod Iterating
