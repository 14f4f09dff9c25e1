pub mod FieldsSteps
pub mod Readings
pub mod ReadingsSteps
pub mod Registers
pub mod RegistersSteps
pub mod Stretches
pub mod StretchesSteps
