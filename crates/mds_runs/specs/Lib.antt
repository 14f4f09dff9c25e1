pub mod Gaps
pub mod GapSteps
pub mod KeptReadings
pub mod Marked
pub mod RunSteps
pub mod Runs
