pub mod GivenLemmas
pub mod GivenRows
pub mod PartLemmas
pub mod ReadySteps
