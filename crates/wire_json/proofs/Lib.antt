pub mod entries
pub mod headers
pub mod images
pub mod json_values
