pub mod Json
pub mod JsonSteps
