-- The quorums that answers show.
pub mod AnswerLines
pub mod AnswersShown
pub mod NamedKeyspaces
pub mod ShownAnswers
pub mod ShownLemmas
