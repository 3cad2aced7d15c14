-- Of the code: how values are kept and changed. No clause of `run` reaches these definitions.
pub mod Changing
pub mod EditCounts
pub mod InPlace
