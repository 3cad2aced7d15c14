use Rattle.std.proofs.Common.{ap, ◌∙◌}
use Rattle.cluster_terms.specs.Group.{nodes_of}
use Rattle.cluster_terms.specs.Replication.{datacenter_group}
use Rattle.node_directory.specs.Shape.{shape_of}
use Rattle.topology_strategy.specs.code.RackedPairs.{AreWithin}
use Rattle.topology_strategy.proofs.RackedLemmas.{listed_shape}
use Rattle.topology_strategy.proofs.datacenter_ring.DatacenterRing.new.Goals as goal

pub invariant_of-result : goal.invariant_of-result
invariant_of-result c =
    let g = datacenter_group c.args.dir.now.rows (c.args.name.now, c.args.rf) in
    let within : AreWithin g c.args.ring.now c.in_ok-racked.racked = rw c.pairs.ensures.pairs at c.in_ok-racked.ensures in (
      c.pairs.ensures.ascends,
      (
        within,
        (
          c.shape_of-shape.ensures.shape ∙ ap (λ l. shape_of (nodes_of l) g) c.deref.ensures.value ∙ listed_shape g c.args.ring.now _ _ within,
          c.shape_of-shape.ensures.bound,
        ),
      ),
    )
