-- What records on a disk stand for, and where they end.
pub mod Fronts
pub mod Headers
pub mod RecordLemmas
pub mod ShownFiles
