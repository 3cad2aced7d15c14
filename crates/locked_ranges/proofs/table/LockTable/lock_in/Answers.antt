use Rattle.locked_ranges.proofs.TableLemmas.{table_insert}
use Rattle.locked_ranges.proofs.table.LockTable.lock_in.Goals as goal

pub invariant_of-self : goal.invariant_of-self
invariant_of-self c =
    let new = rw (← c.self.view_is) at c.requires.new in
    let apart = rw (← c.self.view_is) at c.requires.apart in
    rw c.insert_in.ensures (table_insert _ _ _ _ c.self.invariant new apart)
