pub mod Asked
pub mod Grammar
pub mod Commands
pub mod Refused
