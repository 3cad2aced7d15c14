use Rattle.std.proofs.Common.{◌≡◌, drop}
use Rattle.cluster_terms.specs.Group.{nodes_of}
use Rattle.node_directory.specs.Members.{group_of}
use Rattle.node_directory.specs.code.GroupTally.{met_all}
use Rattle.node_directory.proofs.shape.tally_of.Given as goal

-- what the rest of the pairs adds to the tally so far is what all of them add to the first one
abbrev pub invariant-loop-pair : goal.invariant-loop-pair
invariant-loop-pair l =
    met_all (group_of l.members) (nodes_of (drop l.pair-index l.pairs)) l.tally
    ≡ met_all (group_of l.members) (nodes_of l.pairs) l.initial.tally
