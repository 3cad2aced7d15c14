-- Of the code: how values are kept and changed. No clause of `run` reaches these definitions.
pub mod Endings
pub mod Loading
pub mod Mends
pub mod Questions
pub mod Replays
pub mod Requests
pub mod RunFaults
pub mod Runs
pub mod Stops
pub mod Walks
