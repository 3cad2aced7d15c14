-- What movements gain and lose: nothing outside their ranges, and the same whatever others do in between. Commands
-- change reads and writes by it.
pub mod ChangedByCommands
pub mod ChangedOutcomes
pub mod OutcomesAfter
pub mod SetChanges
