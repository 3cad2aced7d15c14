-- Lists whose items ascend, and counts of distinct items.
pub mod AscendingLemmas
pub mod AscendingNumbers
pub mod AscendingTokens
pub mod CommonLemmas
pub mod DistinctCounts
pub mod MergeLemmas
pub mod Put
pub mod PutPermutes
