-- Pairs of a token and a node.
use Rattle.std.specs.Prelude.{Bool, not, ◌&&◌, ℤ, List, map, filter, ◌==◌}
use Rattle.std.specs.Ordering.{int_eq}
use Rattle.std.specs.Set.{is_member}
use Rattle.cluster_terms.specs.declared.token.Pair.{Pair}

-- whether two pairs have the same token and the same node
abbrev pub same_pair : Pair → Pair → Bool
same_pair p q = int_eq p.token q.token && (p.node == q.node)

-- whether a pair is among these pairs
abbrev pub has_pair : List Pair → Pair → Bool
has_pair ps p = is_member same_pair ps p

-- the pairs that are not in `gone`, in their order
abbrev pub without_pairs : List Pair → List Pair → List Pair
without_pairs ps gone = filter (λ p. not (has_pair gone p)) ps

-- the tokens of the pairs, in their order
abbrev pub tokens_of : List Pair → List ℤ
tokens_of ps = map (λ p. p.token) ps
