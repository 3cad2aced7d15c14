pub mod ChangedRows
pub mod EditedRows
pub mod Exchanges
mod Halving
pub mod InPlaceEdits
pub mod MapCuts
mod MapExamples
pub mod MapRows
