pub mod Settled
pub mod code
