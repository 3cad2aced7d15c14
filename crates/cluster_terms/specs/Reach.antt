-- Reach: the tokens whose placement may change when pairs come or go (CEP-21's locked ranges, by this project's rule).
use Rattle.std.specs.Prelude.{◌≡◌, Bool, true, not, ◌&&◌, ◌||◌, nat_lt, ℤ, List, is_some, ◌==◌}
use Rattle.std.specs.List.{list_any}
use Rattle.cluster_terms.specs.Group.{Group, nodes_of, wanted, spare, taken, ahead_of}
use Rattle.cluster_terms.specs.Pair.{has_pair}
use Rattle.cluster_terms.specs.declared.token.Pair.{Pair}

-- whether a group has the same shape in two sets of pairs: the same number of replicas to find, and the same number of
-- acceptable rack repeats
abbrev pub same_shape : Group → List Pair → List Pair → Bool
same_shape g ps qs = (wanted g (nodes_of ps) == wanted g (nodes_of qs)) && (spare g (nodes_of ps) == spare g (nodes_of qs))

-- whether a walk from x clockwise leaves replicas to find at y: it takes fewer than are wanted of the group's fixed nodes
-- that it meets before y
abbrev pub is_open : Group → List Pair → ℤ → ℤ → Bool
is_open g fixed x y = nat_lt (taken g (nodes_of fixed) (nodes_of (ahead_of x y fixed))) (wanted g (nodes_of fixed))

-- whether a token y reaches x in a group: always if the group's shape differs between the fixed and the widest pairs,
-- and otherwise if replicas are left to find at y
unfoldable pub reaches : Group → List Pair → List Pair → ℤ → ℤ → Bool
reaches g fixed widest x y = not (same_shape g fixed widest) || is_open g fixed x y

-- whether any moved pair of a node of the group reaches x
abbrev pub is_reached_in : List Pair → List Pair → List Pair → ℤ → Group → Bool
is_reached_in fixed widest moved x g = list_any (λ p. is_some (g.rack_of p.node) && reaches g fixed widest x p.token) moved

-- whether x is reached in any of the groups
abbrev pub is_reached : List Group → List Pair → List Pair → List Pair → ℤ → Bool
is_reached gs fixed widest moved x = list_any (is_reached_in fixed widest moved x) gs

-- a ring between the fixed pairs and the widest set of pairs
pub record IsBetween (fixed : List Pair) (widest : List Pair) (ring : List Pair) : Type 0 where
  pub keeps : (p : Pair) → has_pair fixed p ≡ true → has_pair ring p ≡ true
  pub within : (p : Pair) → has_pair ring p ≡ true → has_pair widest p ≡ true

-- two rings that differ only in moved pairs
pub record DifferWithin (moved : List Pair) (one : List Pair) (other : List Pair) : Type 0 where
  pub forth : (p : Pair) → has_pair one p ≡ true → (has_pair other p || has_pair moved p) ≡ true
  pub back : (p : Pair) → has_pair other p ≡ true → (has_pair one p || has_pair moved p) ≡ true
