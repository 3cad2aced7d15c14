-- Groups that have one shape in all rings between the fixed ring and the widest set of pairs.
use Rattle.std.specs.Prelude.{ℕ, Bool, not, ◌&&◌, List, is_some}
use Rattle.std.specs.List.{list_any}
use Rattle.cluster_terms.specs.Group.{Group}
use Rattle.cluster_terms.specs.Reach.{same_shape}
use Rattle.cluster_terms.specs.declared.token.Pair.{Pair}

-- whether a node is in this group and the group's shape differs between the two
abbrev pub is_in_unsettled : List Pair → List Pair → ℕ → Group → Bool
is_in_unsettled fixed widest node = λ g. is_some (g.rack_of node) && not (same_shape g fixed widest)

-- whether a node is in such a group among several
abbrev pub is_in_any_unsettled : List Group → List Pair → List Pair → ℕ → Bool
is_in_any_unsettled gs fixed widest node = list_any (is_in_unsettled fixed widest node) gs
