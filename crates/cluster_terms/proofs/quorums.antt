-- The needs of quorums.
pub mod QuorumLemmas
pub mod QuorumRows
