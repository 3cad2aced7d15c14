pub mod Promises
pub mod SharedLog
pub mod System
