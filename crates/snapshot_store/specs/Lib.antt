pub mod Images
pub mod code
