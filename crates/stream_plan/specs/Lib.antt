pub mod Readable
pub mod Sources
pub mod Streams
pub mod code
