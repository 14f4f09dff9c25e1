pub mod Bodies
pub mod Connections
pub mod Handling
pub mod Laws
pub mod Serving
pub mod TellingSteps
