-- Replicas, defined by counting. The walks of SimpleStrategy and NetworkTopologyStrategy take the same nodes.
use Rattle.std.specs.Prelude.{ℕ, ◌-◌, ◌+◌, min, Bool, false, not, ◌&&◌, ◌||◌, ℤ, List, map, filter, filter_map, Option, Some, None, is_some, nat_eq, nat_lt, ◌==◌}
use Rattle.std.specs.List.{list_any}
use Rattle.std.specs.Ordering.{nat_cmp}
use Rattle.std.specs.Set.{is_member, distinct_count}
use Rattle.std.specs.Str.{bytes_eq}
use Rattle.cluster_terms.specs.Arc.{in_arc}
use Rattle.cluster_terms.specs.Ascending.{ascending}
use Rattle.cluster_terms.specs.declared.token.Pair.{Pair}

-- a group of nodes, each with its rack, and the number of replicas that the group is to have
pub record Group : Type 0 where
  pub rf : ℕ
  -- the rack of a node; None for a node outside the group
  pub rack_of : ℕ → Option (List ℕ)

-- the nodes of the pairs, with repeats
abbrev pub nodes_of : List Pair → List ℕ
nodes_of ps = map (λ p. p.node) ps

-- the number of distinct nodes of the group among these nodes, and the number of their distinct racks
abbrev pub node_count : Group → List ℕ → ℕ
node_count g ns = distinct_count nat_eq (filter (λ n. is_some (g.rack_of n)) ns)

abbrev pub rack_count : Group → List ℕ → ℕ
rack_count g ns = distinct_count bytes_eq (filter_map g.rack_of ns)

-- the number of replicas to find in a ring with these nodes, and how many of them may stand in a rack that already has
-- a replica: NetworkTopologyStrategy's acceptable rack repeats
abbrev pub wanted : Group → List ℕ → ℕ
wanted g ns = min g.rf (node_count g ns)

abbrev pub spare : Group → List ℕ → ℕ
spare g ns = g.rf - min g.rf (rack_count g ns)

-- how many of the group's nodes met so far a walk has taken, in a ring with the nodes ns: the first of each rack, and up
-- to `spare` further ones
abbrev pub taken : Group → List ℕ → List ℕ → ℕ
taken g ns met = min (rack_count g met + spare g ns) (node_count g met)

-- whether the next node, in this rack, is a replica in a ring with the nodes ns, where the nodes `met` come before it:
-- more replicas are wanted than were taken, and its rack is new, or fewer than `spare` nodes met so far repeat a rack
unfoldable pub is_chosen_rack : Group → List ℕ → List ℕ → List ℕ → Bool
is_chosen_rack g ns met rack =
    let repeats = node_count g met - rack_count g met in
    nat_lt (taken g ns met) (wanted g ns)
    && (not (is_member bytes_eq (filter_map g.rack_of met) rack) || nat_lt repeats (spare g ns))

-- the same for a node whose rack may be None; a node outside the group is not chosen
abbrev pub is_chosen : Group → List ℕ → List ℕ → Option (List ℕ) → Bool
is_chosen g ns met None = false
is_chosen g ns met (Some rack) = is_chosen_rack g ns met rack

-- the pairs that are met clockwise from x before y
abbrev pub ahead_of : ℤ → ℤ → List Pair → List Pair
ahead_of x y ps = filter (λ q. in_arc x y q.token) ps

-- whether p has the first token of its node clockwise from x
abbrev pub is_first : ℤ → List Pair → Pair → Bool
is_first x ps p = not (list_any (λ q. p.node == q.node) (ahead_of x p.token ps))

-- whether v is chosen at the pair p, which has its first token clockwise from x
abbrev pub is_chosen_at : Group → ℤ → List Pair → ℕ → Pair → Bool
is_chosen_at g x ps v p =
    (v == p.node) && (is_first x ps p && is_chosen g (nodes_of ps) (nodes_of (ahead_of x p.token ps)) (g.rack_of v))

-- whether v is a replica of the group at x: it is chosen at its first token
unfoldable pub is_replica : Group → ℤ → List Pair → ℕ → Bool
is_replica g x ps v = list_any (is_chosen_at g x ps v) ps

-- whether v is a replica of any of the groups at x
abbrev pub is_replica_of_any : List Group → ℤ → List Pair → ℕ → Bool
is_replica_of_any gs x ps v = list_any (λ g. is_replica g x ps v) gs

-- the placement: the replicas of all groups at x, ascending
unfoldable pub place : List Group → ℤ → List Pair → List ℕ
place gs x ps = ascending nat_cmp (filter (is_replica_of_any gs x ps) (nodes_of ps))
