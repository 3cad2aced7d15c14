pub mod AnsweredLines
pub mod AskedReplies
pub mod CatchUpLines
pub mod FileLogs
pub mod LinesLemmas
pub mod TakenLines
pub mod quorums
pub mod texts
