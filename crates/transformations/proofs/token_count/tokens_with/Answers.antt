use Rattle.std.proofs.Common.{◌≡◌, ◌++◌, ℤ, List, length, map, ap, ◌∙◌, arith}
use Rattle.std.proofs.lemmas.Cmp.{int_cmp_total}
use Rattle.std.specs.Ordering.{int_cmp, int_eq}
use Rattle.std.specs.Set.{distinct_count}
use Rattle.cluster_terms.specs.declared.token.Pair.{Pair}
use Rattle.cluster_terms.proofs.lists.AscendingLemmas.{length-ascending}
use Rattle.transformations.specs.Refusals.{tokens_with}
use Rattle.transformations.proofs.token_count.tokens_with.Goals as goal

pub returns : goal.returns
returns c =
    let pairs = c.as_slice.ensures ∙ c.in_ok-pairs.ensures in
    let all = c.in_ok-extend_from_slice.ensures.items ∙ ap (λ (ts : List ℤ). ts ++ c.args.tokens.now) (c.in_ok-all.ensures.tokens ∙ ap (map (λ (p : Pair). p.token)) pairs) in
    let count : length c.sort_once.new.tokens.items ≡ tokens_with c.args.image.now c.args.tokens.now =
    ap (λ (ts : List ℤ). length ts) c.in_ok-sort_once.ensures ∙ length-ascending int_cmp int_cmp_total c.extend_from_slice.new.self.items ∙ ap (distinct_count int_eq) all in
    omega arith
