pub mod Generated
pub mod GeneratedLines
