-- The ranges of movements: which tokens they have, what keeps them, and what is placed by them.
pub mod KeptNodes
pub mod KeptRanges
pub mod KeptSteps
pub mod KeyspacesApart
pub mod MovementRanges
pub mod MovementsApart
pub mod OutcomeLemmas
pub mod PreparedLemmas
pub mod RangesKept
pub mod RowEndLemmas
pub mod RowsServed
