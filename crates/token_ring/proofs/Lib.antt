pub mod BoundLemmas
pub mod ChosenRows
pub mod DistinctLemmas
pub mod JoinLemmas
pub mod OrderLemmas
pub mod PlaceLemmas
pub mod RangeLemmas
mod RangesApart
pub mod RingLemmas
pub mod SameTokens
