pub mod HeadSteps
pub mod HeadReads
pub mod HeadGrows
pub mod BodyReads
pub mod UnitReads
pub mod BegunReads
mod Samples
mod BodyFeedRows
mod HeadFeedRows
mod DraftRoom
mod ValueRoom
mod Turns
mod EntryLemmas
mod EntryRuns
mod ToldValues
mod Zero
