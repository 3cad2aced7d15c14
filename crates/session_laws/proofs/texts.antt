-- Texts whose lines none begins as an answer on quorums.
pub mod PlainEntries
pub mod PlainImages
pub mod PlainSnapshots
pub mod PlainTexts
pub mod SaidValues
pub mod WholeLines
