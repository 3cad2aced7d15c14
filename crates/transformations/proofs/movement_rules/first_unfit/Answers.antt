use Rattle.std.proofs.Common.{sym, ◌∙◌}
use Rattle.transformations.proofs.images.OneNodeLemmas.{unfit_bad, unfit_good}
use Rattle.transformations.proofs.movement_rules.first_unfit.Goals as goal

pub returns-then-not-branch : goal.returns-then-not-branch
returns-then-not-branch c =
    unfit_bad c.args.image.now _ _ c.row-item.result c.as_slice-rows.ensures c.loop-row-test.true c.loop-row.invariant c.row-item.is (sym c.in_ok-fits.ensures ∙ c.if-not-branch.true)

pub loop-row-preserved : goal.loop-row-preserved
loop-row-preserved c =
    unfit_good c.args.image.now _ _ c.row-item.result c.loop-row-test.true c.loop-row.invariant c.row-item.is (sym c.in_ok-fits.ensures ∙ c.if-not-branch.false)
