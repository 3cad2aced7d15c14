-- Of the code: how values are kept and changed. No clause of `run` reaches these definitions.
pub mod FewReplicas
pub mod RackedPairs
pub mod RingParts
pub mod WalkAmong
