-- Rows between cuts, and pairs.
pub mod PairLemmas
pub mod RingRows
pub mod RowLemmas
