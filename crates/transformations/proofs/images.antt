-- The rules of valid images.
pub mod FirstBadLemmas
pub mod FitLaws
pub mod GroupLaws
pub mod LoopLemmas
pub mod NodeSearchLemmas
pub mod OneNodeLemmas
pub mod OrderLaws
pub mod OverLemmas
pub mod RingLaws
pub mod TokenLoops
