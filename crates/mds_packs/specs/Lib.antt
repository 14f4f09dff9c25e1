pub mod Body
pub mod LoopSteps
pub mod Sizes
pub mod Unpacked
