use Rattle.std.proofs.Common.{◌≡◌, ℕ, take}
use Rattle.std.specs.List.{list_any}
use Rattle.node_sets.specs.NodeSets.{IsNodeSet, has_node}
use Rattle.topology_strategy.specs.DatacenterRing.{RingPart}
use Rattle.topology_strategy.specs.code.RingParts.{is_replica_in}
use Rattle.topology_strategy.proofs.divided_ring.placed_in.Given as goal

-- the replicas in the datacenters so far
abbrev pub invariant-loop-part : goal.invariant-loop-part
invariant-loop-part l = record {
  ascend : IsNodeSet l.placed;
  nodes : (v : ℕ) → has_node l.placed v ≡ list_any (λ (part : RingPart). is_replica_in part l.t v) (take l.part-index l.parts);
}
