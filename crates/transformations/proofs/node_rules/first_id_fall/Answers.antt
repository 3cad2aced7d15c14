use Rattle.std.proofs.Common.{◌<◌, ◌≤◌, ap, ◌∙◌, arith}
use Rattle.cluster_terms.specs.declared.node.NodeRow.{NodeRow}
use Rattle.transformations.proofs.images.LoopLemmas.{id_bad, id_good}
use Rattle.transformations.proofs.node_rules.first_id_fall.Goals as goal

pub returns-then-row-last : goal.returns-then-row-last
returns-then-row-last c =
    let id = ap (λ (row : NodeRow). row.id) c.row.view_is in
    let le : c.row-item.result.id ≤ c.loop-row.last = omega arith in
    id_bad _ _ c.row-item.result c.loop-row.last c.loop-row-test.true c.loop-row.invariant.none c.loop-row.invariant.last c.row-item.is le

pub loop-row-preserved : goal.loop-row-preserved
loop-row-preserved c =
    let id = ap (λ (row : NodeRow). row.id) c.row.view_is in
    let less : c.loop-row.last < c.row-item.result.id = omega arith in
    let more = id_good _ _ c.row-item.result c.loop-row.last c.loop-row-test.true c.loop-row.invariant.none c.loop-row.invariant.last c.row-item.is less in
    record { none = more.0; last = id ∙ more.1 }
