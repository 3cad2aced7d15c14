-- Lines of entries: read and written.
pub mod EntriesReadBack
pub mod EntryCommands
pub mod EntryEpochs
pub mod EntryFloats
pub mod EntryParts
pub mod EntrySizes
pub mod EntryTokens
