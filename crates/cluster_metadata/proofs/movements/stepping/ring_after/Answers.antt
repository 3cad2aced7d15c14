use Rattle.std.proofs.Common.{◌≡◌, [], ◌∷◌, not, List, append-nil, ap, sym, ◌∙◌, subst}
use Rattle.std.proofs.lemmas.List.Kept.{IsStrictlySortedBy-filter}
use Rattle.std.proofs.lemmas.Result.{IfOk-weaker}
use Rattle.std.specs.List.Sorted.{IsStrictlySortedBy}
use Rattle.cluster_terms.specs.Ascending.{put_all}
use Rattle.cluster_terms.specs.Pair.{has_pair, without_pairs}
use Rattle.cluster_terms.specs.declared.token.Pair.{Pair}
use Rattle.transformations.specs.Orders.{by_token}
use Rattle.transformations.specs.Rings.{fixed_among}
use Rattle.transformations.specs.Movements.{ring_after}
use Rattle.transformations.specs.declared.sequence.SeqRow.{SeqRow}
use Rattle.cluster_metadata.proofs.movements.stepping.ring_after.Goals as goal

-- the pairs that one movement leaves in a ring
left_by_one : (tokens : List Pair) (s : SeqRow) → fixed_among tokens (s ∷ []) ≡ without_pairs tokens s.out_pairs
left_by_one tokens s = ap (without_pairs tokens) (append-nil s.out_pairs)

-- what is left of a ring ascends
pub with_pairs-requires : goal.with_pairs-requires
with_pairs-requires c =
    let tokens = c.args.image.now.tokens in
    let gone = c.args.row.now.out_pairs in
    let left : c.as_slice.result.now ≡ without_pairs tokens gone =
    c.as_slice.ensures ∙ c.in_ok-ring.ensures ∙ ap (fixed_among tokens) c.from_ref.ensures.value ∙ left_by_one tokens c.args.row.now in
    subst (IsStrictlySortedBy by_token) (sym left) (IsStrictlySortedBy-filter by_token (λ p. not (has_pair gone p)) tokens c.requires.ring.ascending)

pub returns : goal.returns
returns c =
    let tokens = c.args.image.now.tokens in
    let row = c.args.row.now in
    let left : c.as_slice.result.now ≡ without_pairs tokens row.out_pairs =
    c.as_slice.ensures ∙ c.in_ok-ring.ensures ∙ ap (fixed_among tokens) c.from_ref.ensures.value ∙ left_by_one tokens row in
    let put : put_all by_token c.as_slice-2.result.now c.as_slice.result.now ≡ ring_after tokens row = λ i. put_all by_token (c.as_slice-2.ensures i) (left i) in
    IfOk-weaker c.with_pairs.result (λ (ring : List Pair). ring ≡ put_all by_token c.as_slice-2.result.now c.as_slice.result.now) (λ (ring : List Pair). ring ≡ ring_after tokens row)
    (λ ring is. is ∙ put) c.with_pairs.ensures
