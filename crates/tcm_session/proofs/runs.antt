-- Runs: what they print, read and leave, and where faults stop them.
pub mod AnsweredLemmas
pub mod DurableRuns
pub mod LeftLemmas
pub mod RequestRuns
pub mod RunCauses
pub mod RunLemmas
pub mod RunOutcomes
pub mod StopLemmas
