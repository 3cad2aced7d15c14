-- Replicas by counting, and what they depend on.
pub mod CountLemmas
pub mod GroupLemmas
pub mod PlacedByReach
pub mod PlacedNodes
pub mod PlacementCounts
pub mod PlacementLemmas
pub mod PlacementRows
pub mod ReplicaAt
pub mod ReplicaCounts
