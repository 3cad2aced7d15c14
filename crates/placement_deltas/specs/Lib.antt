pub mod Deltas
pub mod ExactDeltas
pub mod Replications
pub mod code
