pub mod Existing
pub mod Parted
pub mod Sets
