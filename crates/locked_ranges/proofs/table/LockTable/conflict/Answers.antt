use Rattle.locked_ranges.proofs.TableLemmas.{table_apart}
use Rattle.locked_ranges.proofs.table.LockTable.conflict.Goals as goal

pub returns-clause-table : goal.returns-clause-table
returns-clause-table c = λ none.
    let free = rw (c.as_slice.ensures, c.as_slice-2.ensures) at c.first_conflict.ensures.free in
    table_apart c.args.ranges.now c.args.wide.now c.args.self.now c.requires.names c.requires.contains (free.0 none)
