pub mod Ranges
pub mod RangesSteps
pub mod Readings
pub mod Selections
pub mod SuffixesSteps
