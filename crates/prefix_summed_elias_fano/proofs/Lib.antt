pub mod Blocks
pub mod Cases
pub mod Filing
pub mod Gaps
pub mod Restoring
pub mod Sums
pub mod Taking
