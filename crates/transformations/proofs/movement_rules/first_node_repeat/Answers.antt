use Rattle.std.proofs.Common.{sym, ◌∙◌}
use Rattle.transformations.proofs.images.OneNodeLemmas.{node_bad, node_good}
use Rattle.transformations.proofs.movement_rules.first_node_repeat.Goals as goal

pub returns-then-meets_any : goal.returns-then-meets_any
returns-then-meets_any c =
    node_bad _ _ c.index-rows-at.result c.loop-at-test.true c.requires c.loop-at.invariant c.index-rows-at.is (sym c.meets_any.ensures ∙ c.if-meets_any.true)

pub loop-at-preserved : goal.loop-at-preserved
loop-at-preserved c =
    node_good _ _ c.index-rows-at.result c.loop-at-test.true c.requires c.loop-at.invariant c.index-rows-at.is (sym c.meets_any.ensures ∙ c.if-meets_any.false)
