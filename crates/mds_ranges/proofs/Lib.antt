pub mod DayFacts
pub mod InOrder
pub mod Lasting
pub mod Pairs
pub mod Ranged
pub mod Selected
