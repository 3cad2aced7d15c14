use Rattle.std.proofs.Common.{◌≡◌, ◌++◌, drop, take}
use Rattle.std.specs.List.{AllByRecursion}
use Rattle.cluster_terms.specs.Arc.{IsToken}
use Rattle.cluster_terms.specs.Row.{rows_from, rows_between}
use Rattle.cluster_terms.proofs.row.rows_between.Given as goal

-- the rows so far, and those from their right end on; the cuts so far are tokens
abbrev pub invariant-loop-cut : goal.invariant-loop-cut
invariant-loop-cut l = record {
  rows : l.rows.items ++ rows_from l.left (drop l.cut-index l.cuts) ≡ rows_between l.cuts;
  tokens : AllByRecursion IsToken (take l.cut-index l.cuts);
}
