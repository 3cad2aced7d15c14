use Rattle.std.proofs.Common.{◌≡◌, [], None, take}
use Rattle.transformations.specs.ImageRules.{first_bad, node_repeats}
use Rattle.transformations.proofs.movement_rules.first_node_repeat.Given as goal

-- no movement so far has a node of an earlier one
abbrev pub invariant-loop-at : goal.invariant-loop-at
invariant-loop-at l = first_bad node_repeats [] (take l.at l.rows) ≡ None
