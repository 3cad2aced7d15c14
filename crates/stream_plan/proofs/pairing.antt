-- Gained nodes, lost nodes and their strict sources.
pub mod GroupSources
pub mod PairedLemmas
pub mod SourceLemmas
pub mod SourceRows
pub mod SourceSteps
