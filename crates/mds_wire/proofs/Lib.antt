pub mod BodyReads
pub mod CallSteps
mod Exits
pub mod Finds
pub mod HeadLemmas
pub mod HeadReads
pub mod Meant
pub mod Named
pub mod Numbers
pub mod RouteRows
pub mod Texts
pub mod Walks
pub mod Written
