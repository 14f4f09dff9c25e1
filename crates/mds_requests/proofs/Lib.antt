pub mod HolidayLists
pub mod HolidayRows
pub mod ImportKinds
pub mod JobKeys
pub mod JobTexts
pub mod Nothing
pub mod Pairs
