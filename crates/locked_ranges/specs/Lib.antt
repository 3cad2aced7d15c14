pub mod Conflict
pub mod Sharing
pub mod Table
pub mod code
