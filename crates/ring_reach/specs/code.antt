-- Of the code: how values are kept and changed. No clause of `run` reaches these definitions.
pub mod CommonShape
pub mod Moved
pub mod RingChange
pub mod WalkBack
pub mod Windows
