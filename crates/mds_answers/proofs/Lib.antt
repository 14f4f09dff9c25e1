pub mod Codes
pub mod Contents
pub mod Floats
pub mod Lists
pub mod OneText
pub mod Sent
pub mod ShortTexts
pub mod Texts
