pub mod CutDeltas
pub mod ImageFaults
pub mod Metadata
pub mod Permission
pub mod code
