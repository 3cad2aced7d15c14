pub mod FeedLemmas
pub mod FileLemmas
pub mod OwedLemmas
pub mod ShownLemmas
pub mod WriteLoop
