-- Of the code: how values are kept and changed. No clause of `run` reaches these definitions.
pub mod NodeCommands
pub mod ObjectMembers
pub mod ReadResults
