-- Sets of nodes: lists of ids, each below the next.
use Rattle.std.specs.Prelude.{ℕ, Bool, not, List, filter, nat_eq}
use Rattle.std.specs.List.Sorted.{IsStrictlyIncreasing}
use Rattle.std.specs.Ordering.{nat_cmp}
use Rattle.std.specs.Set.{is_member}
use Rattle.cluster_terms.specs.Ascending.{put_all}

-- each id is below the next
abbrev pub IsNodeSet : List ℕ → Type 0
IsNodeSet ids = IsStrictlyIncreasing ids

-- whether a node is in a set
abbrev pub has_node : List ℕ → ℕ → Bool
has_node ids n = is_member nat_eq ids n

-- the nodes of one set that are not in another
abbrev pub without : List ℕ → List ℕ → List ℕ
without ids others = filter (λ n. not (has_node others n)) ids

-- a set without the nodes that it loses, and with those that it gains: the one definition of such a set
abbrev pub with_change : List ℕ → List ℕ → List ℕ → List ℕ
with_change ids gained lost = put_all nat_cmp gained (without ids lost)
