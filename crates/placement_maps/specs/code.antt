-- Of the code: how values are kept and changed. No clause of `run` reaches these definitions.
pub mod Arrangements
pub mod MapBasis
pub mod MapChanges
pub mod Moves
pub mod ShownMaps
pub mod Turns
