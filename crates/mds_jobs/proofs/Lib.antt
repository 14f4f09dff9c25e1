pub mod BodyParts
pub mod BodySplits
pub mod BodyTexts
pub mod IdLemmas
