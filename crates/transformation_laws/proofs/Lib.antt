pub mod commands
pub mod computed
pub mod cut_changes
pub mod deltas
pub mod histories
pub mod images
pub mod nodes
pub mod ranges
