-- What lines are answered.
pub mod AnswersLemmas
pub mod KeyspacePlacements
pub mod LocalLemmas
