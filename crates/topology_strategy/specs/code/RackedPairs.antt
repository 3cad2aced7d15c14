-- The pairs of a group in a ring, with the racks of their nodes.
use Rattle.std.specs.Prelude.{◌≡◌, ℕ, List, map, filter, Some, is_some}
use Rattle.cluster_terms.specs.Group.{Group}
use Rattle.cluster_terms.specs.declared.token.Pair.{Pair}
use Rattle.node_directory.specs.Tally.{racks_in}
use Rattle.topology_strategy.specs.declared.racked_pairs.RackedPairs.{RackedPairs}

-- the pairs of a ring whose nodes are in the group
abbrev pub pairs_within : Group → List Pair → List Pair
pairs_within g ps = filter (λ p. is_some (g.rack_of p.node)) ps

-- each pair has its node's rack in the group
abbrev pub HaveRacks : Group → List Pair → List (List ℕ) → Type 0
HaveRacks g ps racks = map (λ p. g.rack_of p.node) ps ≡ map Some racks

-- the pairs are those of a ring whose nodes are in the group, and the racks are those of their nodes
pub record AreListed (g : Group) (ring pairs : List Pair) (racks : List (List ℕ)) : Type 0 where
  pub listed : pairs ≡ pairs_within g ring
  pub racked : HaveRacks g pairs racks

abbrev pub AreWithin : Group → List Pair → RackedPairs → Type 0
AreWithin g ring racked = AreListed g ring racked.pairs.items (racks_in racked.racks.items)
