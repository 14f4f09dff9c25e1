pub mod Days
pub mod Digits
pub mod Lengths
pub mod Moments
pub mod Numbers
pub mod Texts
