pub mod CloseRuns
pub mod Ends
pub mod GapRuns
pub mod KeptLemmas
pub mod Overlays
pub mod RunFacts
pub mod Spreads
pub mod Tilings
