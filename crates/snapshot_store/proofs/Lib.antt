pub mod EntryStates
pub mod NearestImages
