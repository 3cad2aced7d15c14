use Rattle.locked_ranges.proofs.TableLemmas.{table_others}
use Rattle.locked_ranges.proofs.table.LockTable.unlock.Goals as goal

pub invariant_of-self : goal.invariant_of-self
invariant_of-self c = rw c.keep_others.ensures (table_others _ _ c.self.invariant)
