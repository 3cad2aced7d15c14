pub mod SimpleCounts
pub mod SimplePlacement
pub mod SimpleWalkLemmas
