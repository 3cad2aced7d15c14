-- The rows of a plan, made from a placement map.
pub mod OneRowLemmas
pub mod PlanExamples
pub mod PlanRows
pub mod RowStepLemmas
pub mod StreamLemmas
