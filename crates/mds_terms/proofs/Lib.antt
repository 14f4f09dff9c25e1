pub mod Joined
pub mod ReadBack
pub mod TermOrder
pub mod Texts
