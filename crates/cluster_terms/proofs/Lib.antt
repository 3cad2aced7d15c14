pub mod lists
pub mod placement
pub mod quorums
pub mod reach
pub mod rows
pub mod texts
