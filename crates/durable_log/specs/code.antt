-- Of the code: how values are kept and changed. No clause of `run` reaches these definitions.
pub mod Ends
pub mod Headers
pub mod Loads
