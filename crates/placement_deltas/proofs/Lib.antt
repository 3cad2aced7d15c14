pub mod ChangesLemmas
pub mod DeltaLemmas
pub mod JoinedDeltas
pub mod ReplicationsLemmas
pub mod ShownChanges
pub mod SoFar
mod DeltaExamples
mod SideDeltas
