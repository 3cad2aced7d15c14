-- The text that is written after a script was read, and the statuses.
use Rattle.std.specs.Prelude.{ℕ, List, [], Result, Ok, Err}
use Rattle.script_session.specs.Lines.{if_any}
use Rattle.script_session.specs.Machine.{SessionState, answers}
use Rattle.tcm_session.specs.Limits.{too_large_text}
use Rattle.tcm_session.specs.declared.status.Status.{Status}
use Rattle.tcm_session.specs.declared.scripts.pieces.ReadEnd.{ReadEnd}
use Rattle.tcm_session.specs.declared.scripts.pieces.ReadEnd.TheVariants as end
use Rattle.tcm_session.specs.declared.run_fault.RunFault.{RunFault}
use Rattle.tcm_session.specs.declared.run_fault.RunFault.TheVariants as fault

-- the line that is answered after the input was read: at its end the one that has begun, if there is one; past the
-- limit none
abbrev pub ending_lines : ReadEnd → List ℕ → List (List ℕ)
ending_lines end.AtEnd begun = if_any begun
ending_lines end.PastLimit begun = []

-- the text that is written after the input was read: the answer to this line; past the limit that for an input that is
-- too large
abbrev pub ending_text : ReadEnd → SessionState → List ℕ → List ℕ
ending_text end.AtEnd session begun = answers session (if_any begun)
ending_text end.PastLimit session begun = too_large_text

-- the status of a script that no fault ends
abbrev pub ending_status : ReadEnd → ℕ
ending_status end.AtEnd = 0
ending_status end.PastLimit = 8

-- the status of a run that a fault ends
abbrev pub fault_status : RunFault → ℕ
fault_status fault.Memory = 1
fault_status fault.Source = 4
fault_status fault.Sink = 5
fault_status fault.Store = 6

-- the status of a run that ended with this result
abbrev pub status_by : Result Status RunFault → ℕ
status_by (Ok status) = status.0
status_by (Err fault) = fault_status fault
