use Rattle.std.proofs.Common.{◌≡◌, drop}
use Rattle.cluster_terms.specs.Group.{nodes_of}
use Rattle.node_directory.specs.Tally.{racks_in}
use Rattle.topology_strategy.specs.code.WalkAmong.{found_among}
use Rattle.topology_strategy.proofs.walk.Walk.go_among.Given as goal

-- what the rest of the walk adds to what is found so far is what the whole walk adds
abbrev pub invariant-loop-i : goal.invariant-loop-i
invariant-loop-i l =
    found_among l.wanted (nodes_of (drop l.i l.pairs)) (drop l.i (racks_in l.racks)) l.self
    ≡ found_among l.wanted (nodes_of l.pairs) (racks_in l.racks) l.initial.self
