use Rattle.std.proofs.Common.{◌||◌, find, option_map, sym, ap, ◌∙◌}
use Rattle.std.specs.BTreeSet.{contains}
use Rattle.std.specs.Ordering.{int_cmp}
use Rattle.cluster_terms.specs.declared.token.Pair.{Pair}
use Rattle.transformations.proofs.images.TokenLoops.{has_token, is_seen, seen_more, token_bad, token_good}
use Rattle.transformations.proofs.movement_rules.first_token_repeat.Goals as goal

pub returns-in-Some : goal.returns-in-Some
returns-in-Some c =
    token_bad c.args.ring.now c.loop-row.seen _ _ c.row-item.result _ c.loop-row-test.true c.loop-row.invariant.none c.row-item.is c.loop-row.invariant.seen
    (sym c.in-Some.is ∙ c.first_known.ensures ∙ ap (λ ps. option_map (λ (p : Pair). p.token) (find (is_seen c.args.ring.now c.loop-row.seen) ps)) c.brought.ensures)

pub loop-row-preserved : goal.loop-row-preserved
loop-row-preserved c = record {
  none =
      token_good c.args.ring.now c.loop-row.seen _ _ c.row-item.result c.loop-row-test.true c.loop-row.invariant.none c.row-item.is c.loop-row.invariant.seen
      (sym c.in_default.is ∙ c.first_known.ensures ∙ ap (λ ps. option_map (λ (p : Pair). p.token) (find (is_seen c.args.ring.now c.loop-row.seen) ps)) c.brought.ensures);
  seen =
      seen_more c.loop-row.seen c.add_tokens.new.seen _ _ c.row-item.result c.loop-row-test.true c.row-item.is c.loop-row.invariant.seen
      (λ t. c.in_ok-add_tokens.ensures t ∙ ap (λ ps. contains int_cmp c.loop-row.seen t || has_token ps t) c.as_slice.ensures);
}
