pub mod Imported
pub mod Performed
pub mod Printed
pub mod Program
pub mod Sections
