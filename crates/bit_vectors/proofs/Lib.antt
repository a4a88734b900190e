pub mod OneAhead
pub mod Cases
pub mod Steps
