-- Quorums of images, and those of adjacent epochs.
pub mod AdjacentLemmas
pub mod FinishedSets
pub mod MeetingLemmas
pub mod SameSets
pub mod ServedLemmas
