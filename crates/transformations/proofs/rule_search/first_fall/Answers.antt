use Rattle.std.proofs.Common.{◌≡◌, ◌<◌, false, true, not, ap, sym, ◌∙◌, is_lt, length, arith}
use Rattle.transformations.proofs.images.LoopLemmas.{fall_bad, fall_good, less_index}
use Rattle.transformations.proofs.rule_search.first_fall.Goals as goal

pub returns-then-ne : goal.returns-then-ne
returns-then-ne g c =
    let in_at : c.loop-at.at < length c.args.items.now = omega arith in
    let test : is_lt (g.T.Ordered.order c.index-items-at.result c.index-items-at-in-loop-at.result) ≡ false =
    ap is_lt (sym c.order.ensures) ∙ less_index c.order.result c.ne.result c.ne.ensures ∙ ap not c.if-ne.true in
    fall_bad g.T.Ordered.order c.args.items.now c.loop-at.at c.index-items-at.result c.index-items-at-in-loop-at.result c.index-items-at-then-ne.result
    c.loop-at.invariant.low in_at c.loop-at.invariant.none c.index-items-at.is c.index-items-at-in-loop-at.is c.index-items-at-then-ne.is test

pub loop-at-preserved : goal.loop-at-preserved
loop-at-preserved g c =
    let in_at : c.loop-at.at < length c.args.items.now = omega arith in
    let test : is_lt (g.T.Ordered.order c.index-items-at.result c.index-items-at-in-loop-at.result) ≡ true =
    ap is_lt (sym c.order.ensures) ∙ less_index c.order.result c.ne.result c.ne.ensures ∙ ap not c.if-ne.false in
    record {
      low = omega arith;
      none =
          fall_good g.T.Ordered.order c.args.items.now c.loop-at.at c.index-items-at.result c.index-items-at-in-loop-at.result
          c.loop-at.invariant.low in_at c.loop-at.invariant.none c.index-items-at.is c.index-items-at-in-loop-at.is test;
    }
