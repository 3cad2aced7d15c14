pub mod CatchUp
pub mod Shown
