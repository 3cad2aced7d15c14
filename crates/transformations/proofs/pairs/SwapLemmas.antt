-- The tokens of a ring in which some pairs are swapped for others.
use Rattle.std.proofs.Common.{◌≡◌, ℕ, ◌⊎◌, inl, inr, not, ◌==◌, List, [], ◌++◌, sym, ap, ◌∙◌, subst, append_assoc}
use Rattle.std.proofs.lemmas.List.{map-append}
use Rattle.std.proofs.lemmas.List.Sorted.{IsPermutation-append_left}
use Rattle.cluster_terms.specs.Pair.{tokens_of}
use Rattle.cluster_terms.specs.declared.token.Pair.{Pair}
use Rattle.transformations.proofs.lists.ListLemmas.{part_all, part_append, part_filter}
use Rattle.transformations.proofs.pairs.OwnedLemmas.{ring_split, without}
use Rattle.transformations.proofs.pairs.RingPairs.{AreFew, few_alike, few_moved, few_part}
use Rattle.transformations.specs.Movements.{owned}
use Rattle.transformations.specs.Valid.{brought_by}
use Rattle.transformations.specs.declared.sequence.Kind.{Kind}
use Rattle.transformations.specs.declared.sequence.SeqRow.{SeqRow}

-- pairs that come have tokens of their own, or those of the pairs that go
abbrev pub PutsAnew : Kind → SeqRow → Type 0
PutsAnew k s = (brought_by k s.in_pairs ≡ s.in_pairs) ⊎ ((brought_by k s.in_pairs ≡ []) × (tokens_of s.in_pairs ≡ tokens_of s.out_pairs))

-- so no token comes twice beside the pairs that stay and further ones
pub few_swapped : (k : Kind) (ring more : List Pair) (s : SeqRow) (from : ℕ) → s.out_pairs ≡ owned ring from → PutsAnew k s
    → AreFew (brought_by k s.in_pairs ++ (ring ++ more)) → AreFew (s.in_pairs ++ (without ring from ++ more))
few_swapped k ring more s from taken puts few = by puts
  where
    kept : List Pair
    kept = without ring from

    by : PutsAnew k s → AreFew (s.in_pairs ++ (kept ++ more))
    by (inl all) =
        few_part (part_append (part_all s.in_pairs) (part_append (part_filter (λ (p : Pair). not (p.node == from)) ring) (part_all more)))
        (subst (λ own. AreFew (own ++ (ring ++ more))) all few)
    by (inr none) =
        let out : List Pair = owned ring from in
        let whole : AreFew (ring ++ more) = subst (λ own. AreFew (own ++ (ring ++ more))) none.0 few in
        let split : AreFew (out ++ (kept ++ more)) =
        subst AreFew (append_assoc out kept more) (few_moved (ring ++ more) ((out ++ kept) ++ more) (IsPermutation-append_left more ring (out ++ kept) (ring_split ring from)) whole) in
        few_alike (s.in_pairs ++ (kept ++ more)) (out ++ (kept ++ more))
        (map-append (λ (p : Pair). p.token) s.in_pairs (kept ++ more)
        ∙ ap (λ l. l ++ tokens_of (kept ++ more)) (none.1 ∙ ap tokens_of taken)
        ∙ sym (map-append (λ (p : Pair). p.token) out (kept ++ more))) split
