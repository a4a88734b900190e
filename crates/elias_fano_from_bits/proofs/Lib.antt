pub mod Asking
pub mod Cases
pub mod Filing
pub mod Highs
pub mod Marks
pub mod Ones
pub mod Taking
