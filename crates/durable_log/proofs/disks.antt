-- Calls of a disk one after another, and what a crash leaves of them.
pub mod Crash
pub mod MemSteps
pub mod Moments
pub mod Writes
