pub mod Building
pub mod Getters
pub mod Named
pub mod Stops
