pub mod NumberLemmas
pub mod PermitOutcomes
pub mod RuleLemmas
pub mod accepted
pub mod in_flight
pub mod locks
pub mod map_changes
