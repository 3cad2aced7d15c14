pub mod Directory
pub mod Members
pub mod Room
pub mod Shape
pub mod Tally
pub mod code
