pub mod Candidates
pub mod FillSteps
pub mod Fills
