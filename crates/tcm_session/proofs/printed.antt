-- What a run prints.
pub mod GeneratedTexts
pub mod PlainReplays
pub mod PlanCovers
pub mod PlanTexts
pub mod PrintedLemmas
pub mod RequestForms
