pub mod Stored
pub mod StoredDetails
pub mod StoredNotes
pub mod StoredPeriods
pub mod StoredSteps
