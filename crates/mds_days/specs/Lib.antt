pub mod Days
pub mod Readings
pub mod RunFaults
