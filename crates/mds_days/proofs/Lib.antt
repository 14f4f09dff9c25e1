pub mod Tallies
pub mod Wholes
