pub mod CountSteps
pub mod GroupWalks
pub mod HomeChanges
pub mod RackedLemmas
pub mod TopologyPlacement
pub mod WithinLemmas
