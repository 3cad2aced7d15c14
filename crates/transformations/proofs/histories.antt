-- Histories, and the images that they lead to.
pub mod HistoryLemmas
pub mod LogLemmas
pub mod SoundLemmas
pub mod ValidLemmas
