-- The faults that end a step early, and the count of faults after them.
use Rattle.std.specs.Prelude.{ℕ, Result, Ok, Err}
use Rattle.tcm_edges.specs.Causes.{one_more}
use Rattle.tcm_edges.specs.declared.fault.WriteFault.{WriteFault}
use Rattle.tcm_edges.specs.declared.fault.WriteFault.TheVariants as write
use Rattle.script_session.specs.declared.fault.StepFault.{StepFault}
use Rattle.script_session.specs.declared.fault.StepFault.TheVariants as step

-- the count of the store's faults after a step that ended with this fault: one more if the store failed, else the same
abbrev pub count_after : StepFault → ℕ → ℕ
count_after step.Memory count = count
count_after step.Store count = one_more count

-- the count of the store's faults after a step that came to this result
abbrev pub count_by : {T : Type 0} → Result T StepFault → ℕ → ℕ
count_by (Ok _) count = count
count_by (Err fault) count = count_after fault count

-- the fault of a step that failed to change a file
abbrev pub of_append : WriteFault → StepFault
of_append write.Failed = step.Store
of_append write.Memory = step.Memory
