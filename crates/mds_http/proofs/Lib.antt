pub mod Fed
pub mod Rests
pub mod Runs
pub mod Served
