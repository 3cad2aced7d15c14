-- The faults that end a run, and the counts of faults after them.
use Rattle.std.specs.Prelude.{Result, Ok, Err}
use Rattle.tcm_edges.specs.Causes.{one_more}
use Rattle.tcm_edges.specs.declared.fault.LoadFault.{LoadFault}
use Rattle.tcm_edges.specs.declared.fault.LoadFault.TheVariants as load
use Rattle.tcm_edges.specs.declared.fault.WriteFault.{WriteFault}
use Rattle.tcm_edges.specs.declared.fault.WriteFault.TheVariants as write
use Rattle.tcm_session.specs.Counts.{Counts}
use Rattle.tcm_session.specs.declared.run_fault.RunFault.{RunFault}
use Rattle.tcm_session.specs.declared.run_fault.RunFault.TheVariants as run
use Rattle.script_session.specs.declared.fault.StepFault.{StepFault}
use Rattle.script_session.specs.declared.fault.StepFault.TheVariants as step

-- the fault of a run that failed to write to its sink
abbrev pub of_write : WriteFault → RunFault
of_write write.Failed = run.Sink
of_write write.Memory = run.Memory

-- the fault of a run in which a step failed
abbrev pub of_step : StepFault → RunFault
of_step step.Memory = run.Memory
of_step step.Store = run.Store

-- the fault of a run that failed to load a file
abbrev pub of_load : LoadFault → RunFault
of_load load.Failed = run.Store
of_load load.Memory = run.Memory

-- the counts after a fault ended a run, or a part of one: one more if the source, the sink or the store failed
abbrev pub counts_after : RunFault → Counts → Counts
counts_after run.Memory before = before
counts_after run.Source before = record before { source = one_more before.source }
counts_after run.Sink before = record before { sink = one_more before.sink }
counts_after run.Store before = record before { store = one_more before.store }

-- the counts after a run, or a part of one, that came to this result
abbrev pub counts_by : {T : Type 0} → Result T RunFault → Counts → Counts
counts_by (Ok _) before = before
counts_by (Err fault) before = counts_after fault before
