use Rattle.std.proofs.Common.{ℤ, int_le, filter, ◌∙◌}
use Rattle.std.proofs.lemmas.List.Kept.{IsStrictlySortedBy-filter}
use Rattle.std.specs.Ordering.{int_cmp}
use Rattle.cluster_terms.specs.Row.{last_token}
use Rattle.transformations.proofs.lists.FilterLemmas.{filter_both}
use Rattle.sequence_plans.specs.code.NearCuts.{is_from}
use Rattle.sequence_plans.proofs.near_cuts.cuts_near.Goals as goal

pub cuts_up_to-requires : goal.cuts_up_to-requires
cuts_up_to-requires c = rw c.cuts_from.ensures (IsStrictlySortedBy-filter int_cmp (is_from c.args.range.now.left) c.args.cuts.now c.requires)

pub returns : goal.returns
returns c =
    let range = c.args.range.now in
    c.cuts_up_to.ensures
    ∙ (λ i. filter (λ (t : ℤ). int_le t (c.last_token.ensures i)) (c.cuts_from.ensures i))
    ∙ filter_both (λ (t : ℤ). int_le t (last_token range.right)) (is_from range.left) c.args.cuts.now
