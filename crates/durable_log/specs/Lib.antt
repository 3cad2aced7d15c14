pub mod Disk
pub mod Ends
pub mod Images
pub mod MemDisk
pub mod MemImages
pub mod Records
pub mod code
