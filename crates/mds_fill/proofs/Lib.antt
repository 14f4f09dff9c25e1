mod BookValues
mod FillLemmas
mod LikeDays
mod SourceLemmas
mod TallyLemmas
mod TargetLemmas
