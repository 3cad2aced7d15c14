pub mod inputs
pub mod log_files
pub mod members
pub mod printed
pub mod runs
