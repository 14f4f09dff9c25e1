pub mod Answered
pub mod AnyOrder
pub mod Determined
pub mod Exchange
pub mod Kept
pub mod Registers
pub mod Returns
pub mod Worlds
