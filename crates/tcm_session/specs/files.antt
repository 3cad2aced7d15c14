-- What the lines of files say.
pub mod FileEnds
pub mod LookedEnds
pub mod MemberRoute
pub mod Replay
pub mod ReplayPrefix
pub mod StateLine
pub mod StreamPlan
