pub mod Follower
pub mod Prefix
pub mod code
