pub mod Locks
pub mod Plan
pub mod PlanDeltas
pub mod code
