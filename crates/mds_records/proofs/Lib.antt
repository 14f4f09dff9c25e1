pub mod Days
pub mod Outcomes
pub mod Rests
pub mod Rules
pub mod Tallies
pub mod Terms
pub mod Together
