pub mod BodyLemmas
pub mod Copied
pub mod DaysDelivered
pub mod OneText
pub mod OrderlyTests
pub mod SelectedTests
