use Rattle.std.proofs.Common.{take, drop, map, sym, ap, ◌∙◌}
use Rattle.std.specs.Ordering.{nat_cmp}
use Rattle.cluster_terms.proofs.placement.PlacementLemmas.{nodes_of-append, placed_nowhere}
use Rattle.cluster_terms.specs.Ascending.{ascending}
use Rattle.cluster_terms.specs.Group.{nodes_of}
use Rattle.cluster_terms.specs.Replication.{datacenter_group}
use Rattle.topology_strategy.specs.DatacenterShapes.{shapes_of}
use Rattle.topology_strategy.specs.Walk.{taken_in_all}
use Rattle.topology_strategy.proofs.TopologyPlacement.{placed_by_walks}
use Rattle.topology_strategy.proofs.validity.placement_is_walked.Goals as goal

pub returns-clause-walk : goal.returns-clause-walk
returns-clause-walk c =
    λ nodes factors ring x i is first.
    placed_by_walks nodes ring x i is first factors
    ∙ ap (λ ns. ascending nat_cmp (taken_in_all ns nodes factors (shapes_of nodes factors (nodes_of ring)))) (sym (nodes_of-append (drop i ring) (take i ring)))

pub returns-clause-nowhere : goal.returns-clause-nowhere
returns-clause-nowhere c = λ nodes factors x. placed_nowhere (map (datacenter_group nodes) factors) x
