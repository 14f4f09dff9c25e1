pub mod Accumulations
pub mod Answers
pub mod BuilderSteps
pub mod Faults
pub mod FileReaderSteps
pub mod Place
pub mod Said
pub mod Statements
