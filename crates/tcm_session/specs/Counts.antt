-- The counts of faults of the outside.
use Rattle.std.specs.Prelude.{ℕ}

-- the counts of faults of the source, the sink and the store
pub record Counts : Type 0 where
  pub source : ℕ
  pub sink : ℕ
  pub store : ℕ

-- these counts, as a record
abbrev pub counts : ℕ → ℕ → ℕ → Counts
counts source sink store = record { source = source; sink = sink; store = store }
