use Rattle.std.proofs.Common.{◌≡◌, ◌≤◌, None, take}
use Rattle.transformations.specs.ImageRules.{first_fall}
use Rattle.transformations.proofs.rule_search.first_fall.Given as goal

-- the items so far ascend
abbrev pub invariant-loop-at : goal.invariant-loop-at
invariant-loop-at g l = record {
  low : 1 ≤ l.at;
  none : first_fall g.T.Ordered.order 0 (take l.at l.items) ≡ None;
}
