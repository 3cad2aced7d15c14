use Rattle.locked_ranges.proofs.TableLemmas.{table_push}
use Rattle.locked_ranges.proofs.table.LockTable.lock.Goals as goal
use Rattle.locked_ranges.proofs.table.LockTable.lock.Goals.{in-Ok, in-Err}

pub invariant_of-self : goal.invariant_of-self
invariant_of-self c =
    let new = rw (← c.self.view_is) at c.requires.new in
    let apart = rw (← c.self.view_is) at c.requires.apart in
    elim c.match-push.branch [
      | in-Ok w ↦ rw w.in-Ok.ensures (table_push _ _ _ c.self.invariant new apart)
      | in-Err w ↦ rw w.in-Err.ensures.0 c.self.invariant
    ]
