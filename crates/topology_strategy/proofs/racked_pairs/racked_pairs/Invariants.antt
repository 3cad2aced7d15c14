use Rattle.std.proofs.Common.{take}
use Rattle.node_directory.specs.Members.{group_of}
use Rattle.node_directory.specs.Tally.{racks_in}
use Rattle.topology_strategy.specs.code.RackedPairs.{AreListed}
use Rattle.topology_strategy.proofs.racked_pairs.racked_pairs.Given as goal

-- the pairs within the group so far
abbrev pub invariant-loop-pair : goal.invariant-loop-pair
invariant-loop-pair l = AreListed (group_of l.members) (take l.pair-index l.ring) l.pairs.items (racks_in l.racks.items)
