-- What a plan covers, and which quorums stay readable by its strict sources.
pub mod CoveredLemmas
pub mod ReadableLemmas
pub mod ReadsBefore
pub mod StreamedLemmas
