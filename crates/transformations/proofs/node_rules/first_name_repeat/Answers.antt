use Rattle.std.proofs.Common.{ap, not, ◌∙◌}
use Rattle.transformations.proofs.images.LoopLemmas.{name_bad, name_good, name_known, names_more}
use Rattle.transformations.proofs.node_rules.first_name_repeat.Goals as goal

pub returns-then-not-branch : goal.returns-then-not-branch
returns-then-not-branch c =
    name_bad _ _ c.row-item.result c.loop-row-test.true c.loop-row.invariant.none c.row-item.is
    (name_known _ _ _ c.row-item.result c.as_str.result _ c.as_str.ensures.text c.loop-row.invariant.names c.in_ok-insert.ensures.added ∙ ap not c.if-not-branch.true)

pub loop-row-preserved : goal.loop-row-preserved
loop-row-preserved c = record {
  none =
      name_good _ _ c.row-item.result c.loop-row-test.true c.loop-row.invariant.none c.row-item.is
      (name_known _ _ _ c.row-item.result c.as_str.result _ c.as_str.ensures.text c.loop-row.invariant.names c.in_ok-insert.ensures.added ∙ ap not c.if-not-branch.false);
  names =
      names_more _ c.insert.new.self _ _ c.row-item.result c.as_str.result c.loop-row-test.true c.row-item.is c.as_str.ensures.text c.loop-row.invariant.names c.in_ok-insert.ensures.updates;
}
