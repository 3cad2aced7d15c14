-- What the tokens of moved pairs reach.
pub mod ReachKept
pub mod ReachLemmas
pub mod ReachNodes
pub mod ReachSame
pub mod SettledLemmas
