-- Files of lines: logs that are taken over, and replays.
pub mod BaseLemmas
pub mod EndedRuns
pub mod HeldFiles
pub mod LoadLemmas
pub mod LogLines
pub mod LookedRuns
pub mod MendLemmas
pub mod MendRuns
pub mod ReplayLemmas
pub mod ReplayPrefixes
pub mod ReplayReports
