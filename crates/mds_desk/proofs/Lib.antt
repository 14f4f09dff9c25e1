pub mod Codes
pub mod Headings
pub mod ReadIn
pub mod Requested
