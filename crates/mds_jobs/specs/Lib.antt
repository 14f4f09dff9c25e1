pub mod Bodies
pub mod BodySteps
pub mod Ids
pub mod IdSteps
pub mod Jobs
