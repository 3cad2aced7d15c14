pub mod ConflictExamples
pub mod FirstSharedEnds
pub mod Overlaps
pub mod TableLemmas
