pub mod CommonNodes
pub mod PartedLemmas
pub mod PendingLemmas
