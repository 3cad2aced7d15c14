use Rattle.std.proofs.Common.{◌++◌, sym, ◌∙◌}
use Rattle.sequence_plans.proofs.NearCutSearch.{near_more, near_none}
use Rattle.sequence_plans.proofs.near_cuts.near_cuts.Goals as goal

pub loop-range-init : goal.loop-range-init
loop-range-init c = c.new-near.ensures.items ∙ sym (near_none c.args.cuts.now)

pub loop-range-preserved : goal.loop-range-preserved
loop-range-preserved c =
    c.in_ok-extend_from_slice.ensures.items
    ∙ (λ i. c.loop-range.invariant i ++ c.cuts_near.ensures i)
    ∙ sym (near_more c.args.cuts.now c.args.ranges.now c.loop-range.range-index c.range-item.result c.requires.ascending c.requires.list c.loop-range-test.true c.range-item.is)
