-- The pairs of rings, and their tokens.
pub mod OwnedLemmas
pub mod PairSearch
pub mod RingPairs
pub mod SwapLemmas
pub mod WidestLemmas
