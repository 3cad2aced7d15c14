-- A reader, a writer or a runtime with a count of its failures.
use Rattle.std.specs.Prelude.{ℕ}
use Rattle.tcm_edges.specs.Causes.{one_more}

-- a reader, a writer or a runtime, and how many of its calls failed
pub record Counted (T : Type 0) : Type 0 where
  pub inner : T
  pub failures : ℕ

-- the same after one more call failed
abbrev pub with_failure : {T : Type 0} → Counted T → Counted T
with_failure old = record old { failures = one_more old.failures }
