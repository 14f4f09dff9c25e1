pub mod Calendar
pub mod CalendarSteps
pub mod Length
pub mod Weekdays
