pub mod Dating
pub mod Forming
pub mod Migrated
pub mod Migrating
pub mod OldDetails
pub mod OldHeads
pub mod OldLengths
pub mod Packing
