use Rattle.std.proofs.Common.{map, ap, sym, ◌∙◌}
use Rattle.std.specs.List.{list_any}
use Rattle.cluster_terms.proofs.lists.AscendingNumbers.{ascending_same_numbers}
use Rattle.cluster_terms.proofs.placement.PlacementLemmas.{placed_by}
use Rattle.cluster_terms.specs.Replication.{datacenter_group}
use Rattle.topology_strategy.specs.DatacenterRing.{RingPart, factors_of}
use Rattle.topology_strategy.specs.code.RingParts.{is_replica_in}
use Rattle.topology_strategy.specs.GroupedRing.{GroupedRing, placement_at}
use Rattle.topology_strategy.proofs.RackedLemmas.{parts_replicas}
use Rattle.topology_strategy.proofs.divided_ring.DividedRing.placed_at.Goals as goal

pub returns : goal.returns
returns c =
    let ring = c.self.inside.ring.now in
    let nodes = c.self.inside.dir.now.rows in
    let factors = factors_of c.self.inside.parts.items in
    let t = c.args.t in
    let placed = c.in_ok-placed.placed in
    sym (ap (λ (r : GroupedRing). placement_at r t) (sym c.self.view_is)
    ∙ placed_by t ring (map (datacenter_group nodes) factors) placed
    (λ v. c.in_ok-placed.ensures.nodes v ∙ ap (list_any (λ (part : RingPart). is_replica_in part t v)) (c.deref.ensures.value ∙ c.self.invariant) ∙ parts_replicas ring nodes factors t v)
    ∙ ascending_same_numbers placed c.in_ok-placed.ensures.ascend)
