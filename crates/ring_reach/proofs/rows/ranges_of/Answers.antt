use Rattle.std.proofs.Common.{rules, ℤ, List, Result, Ok, Err, sym, ap, ◌∙◌, subst}
use Rattle.std.proofs.lemmas.Result.{IfOk-weaker}
use Rattle.std.specs.List.{flat_map}
use Rattle.std.specs.List.Sorted.{IsStrictlySortedBy}
use Rattle.std.specs.Ordering.{int_cmp, int_eq}
use Rattle.std.specs.Result.{IfOk}
use Rattle.std.specs.Set.{is_member}
use Rattle.token_ring.proofs.BoundLemmas.{out_more}
use Rattle.ring_reach.specs.code.Moved.{HaveSameTokens}
use Rattle.ring_reach.specs.code.Windows.{any_have, window_bounds}
use Rattle.ring_reach.proofs.ReachedRows.{rows_reached}
use Rattle.ring_reach.proofs.rows.ranges_of.Goals as goal

IfOk-both : {T E : Type 0} (r : Result T E) (P Q : T → Type 0) → IfOk r P → IfOk r Q → IfOk r (λ x. P x × Q x)
IfOk-both (Ok x) P Q p q = (p, q)
IfOk-both (Err e) P Q p q = tt

pub of_rows-requires : goal.of_rows-requires
of_rows-requires c =
    record {
      ascending = subst (IsStrictlySortedBy int_cmp) (sym c.deref.ensures.value) c.in_ok-cuts.ensures.ascending;
      calls = search rules;
    }

pub returns-clause-reach : goal.returns-clause-reach
returns-clause-reach c =
    let groups = c.args.groups.now in
    let cuts = c.deref.result.now in
    let up = subst (IsStrictlySortedBy int_cmp) (sym c.deref.ensures.value) c.in_ok-cuts.ensures.ascending in
    let same : HaveSameTokens cuts (flat_map window_bounds groups) = λ t. ap (λ (ts : List ℤ). is_member int_eq ts t) c.deref.ensures.value ∙ c.in_ok-cuts.ensures.tokens t in
    IfOk-weaker c.of_rows.result _ _
    (λ ranges h t token. h.0 (any_have groups) (λ x b _ told. search rules) t token ∙ rows_reached groups cuts up h.1 same t token)
    (IfOk-both c.of_rows.result _ _ c.of_rows.ensures.ranges c.of_rows.ensures.tokens)

pub returns-clause-bounds : goal.returns-clause-bounds
returns-clause-bounds c =
    let cuts = c.deref.result.now in
    let same : HaveSameTokens cuts (flat_map window_bounds c.args.groups.now) = λ t. ap (λ (ts : List ℤ). is_member int_eq ts t) c.deref.ensures.value ∙ c.in_ok-cuts.ensures.tokens t in
    IfOk-weaker c.of_rows.result _ _
    (λ ranges h. out_more cuts (flat_map window_bounds c.args.groups.now) (λ t k. sym (same t) ∙ k) ranges h)
    c.of_rows.ensures.bounds
