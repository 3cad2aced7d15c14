pub mod Bounds
pub mod Ring
pub mod TokenRanges
pub mod code
