-- Followers of one log, and what a step leaves of them.
pub mod FollowerLemmas
pub mod HandedLemmas
pub mod TakenLemmas
pub mod WayLemmas
