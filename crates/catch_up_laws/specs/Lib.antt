pub mod Given
pub mod Parts
pub mod Ready
