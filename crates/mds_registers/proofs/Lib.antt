pub mod BookReadings
pub mod Found
pub mod Lasts
pub mod PlainRows
pub mod ReadingLaws
pub mod ReadingRows
pub mod Rows
pub mod Tiles
