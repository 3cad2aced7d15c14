pub mod Faults
pub mod Lines
pub mod LogFiles
pub mod Machine
pub mod StepEnds
pub mod Taken
pub mod code
