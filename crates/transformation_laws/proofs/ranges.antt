-- The ranges of movements: which tokens they have, what keeps them, and what is placed by them.
pub mod KeyspaceLocks
pub mod LockedLemmas
