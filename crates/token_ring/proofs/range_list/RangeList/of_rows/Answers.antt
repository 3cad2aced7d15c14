use Rattle.std.proofs.Common.{Bool, length, sym, ap, subst, List, ◌∙◌}
use Rattle.std.proofs.lemmas.List.{length-map}
use Rattle.cluster_terms.specs.Row.{rows_between}
use Rattle.cluster_terms.specs.declared.row.TokenRange.{TokenRange}
use Rattle.token_ring.specs.TokenRanges.{IsRangeList, AreCutOut, have_chosen, have_token}
use Rattle.token_ring.proofs.JoinLemmas.{chosen_list, chosen_have, chosen_out}
use Rattle.token_ring.proofs.range_list.RangeList.of_rows.Goals as goal

pub invariant_of-result : goal.invariant_of-result
invariant_of-result g c =
    let made = c.in_ok-ranges.ensures.ranges in
    subst IsRangeList (sym made.1) (chosen_list c.args.cuts.now made.0 c.requires.ascending c.in_ok-ranges.ensures.tokens)

pub returns-clause-ranges : goal.returns-clause-ranges
returns-clause-ranges g c = λ has answers t token.
    let cuts = c.args.cuts.now in
    let made = c.in_ok-ranges.ensures.ranges in
    let told = made.2 has answers in
    ap (λ (l : List TokenRange). have_token l t) made.1
    ∙ chosen_have cuts made.0 c.requires.ascending c.in_ok-ranges.ensures.tokens (ap (λ (bs : List Bool). length bs) told ∙ length-map (rows_between cuts) _) t
    ∙ ap (λ (bs : List Bool). have_chosen (rows_between cuts) bs t) told

pub returns-clause-bounds : goal.returns-clause-bounds
returns-clause-bounds g c =
    let made = c.in_ok-ranges.ensures.ranges in
    subst (AreCutOut c.args.cuts.now) (sym made.1) (chosen_out c.args.cuts.now made.0)
