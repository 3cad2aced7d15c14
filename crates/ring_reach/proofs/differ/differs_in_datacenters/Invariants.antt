use Rattle.std.proofs.Common.{◌≡◌, false, not, ◌&&◌, is_some, map, take}
use Rattle.std.specs.List.{list_any}
use Rattle.cluster_terms.specs.Group.{Group}
use Rattle.cluster_terms.specs.Reach.{same_shape}
use Rattle.cluster_terms.specs.Replication.{datacenter_group}
use Rattle.ring_reach.proofs.differ.differs_in_datacenters.Given as goal

-- it is not so in the datacenters so far
abbrev pub invariant-loop-name : goal.invariant-loop-name
invariant-loop-name l =
    list_any (λ (g : Group). is_some (g.rack_of l.node) && not (same_shape g l.fixed l.widest)) (map (datacenter_group l.dir.rows) (take l.name-index l.factors)) ≡ false
