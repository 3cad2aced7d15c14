use Rattle.std.proofs.Common.{◌<◌, Bool, not, ◌&&◌, is_some, length, sym, ◌∙◌, arith}
use Rattle.cluster_terms.specs.Group.{Group}
use Rattle.cluster_terms.specs.Reach.{same_shape}
use Rattle.cluster_terms.specs.Replication.{datacenter_group}
use Rattle.ring_reach.proofs.MappedItems.{any_mapped}
use Rattle.ring_reach.proofs.differ.differs_in_datacenters.Goals as goal

pub returns-then-differs_in : goal.returns-then-differs_in
returns-then-differs_in c =
    let test : Group → Bool = λ g. is_some (g.rack_of c.args.node) && not (same_shape g c.args.fixed.now c.args.widest.now) in
    let in_i : c.loop-name.name-index < length c.args.factors.now = omega arith in
    sym (any_mapped test (datacenter_group c.args.dir.now.rows) c.args.factors.now c.loop-name.name-index c.loop-name-item.result in_i c.loop-name-item.is (sym c.differs_in.ensures ∙ c.if-differs_in.true))
