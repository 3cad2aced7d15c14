-- What movements gain and lose: nothing outside their ranges, and the same whatever others do in between. Commands
-- change reads and writes by it.
pub mod DeltaRows
pub mod DeltasAfter
pub mod DoneDeltas
pub mod KeptDeltas
pub mod OutsideDeltas
pub mod StepDeltas
