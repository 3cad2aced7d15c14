-- Facts on small clusters, each of which is computed.
pub mod ImageRows
pub mod MeetingRows
pub mod MovementRows
pub mod Rows
pub mod StepRows
