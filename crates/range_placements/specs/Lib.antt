pub mod Editing
pub mod Exchanging
pub mod Placements
pub mod code
