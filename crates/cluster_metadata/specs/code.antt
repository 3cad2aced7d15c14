-- Of the code: how values are kept and changed. No clause of `run` reaches these definitions.
pub mod Change
pub mod Locking
pub mod MapSteps
pub mod MetadataParts
pub mod Nodes
pub mod Overlaps
pub mod PermitParts
pub mod Running
