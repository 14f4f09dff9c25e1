pub mod Answers
pub mod Faults
pub mod Feeding
pub mod FileSteps
pub mod Given
pub mod Governing
pub mod Said
pub mod SoFar
