pub mod MappedItems
pub mod PartLemmas
pub mod ReachedByChange
pub mod ReachedRows
pub mod RoundLemmas
pub mod TokenLemmas
pub mod WalkBackLemmas
pub mod WindowLemmas
