-- The changes from one set of members to another.
use Rattle.std.specs.Prelude.{ℕ, List, [], ◌∷◌, ◌++◌, map, flat_map}
use Rattle.node_sets.specs.NodeSets.{without}
use Rattle.cms_members.specs.declared.change.Change.{Change}
use Rattle.cms_members.specs.declared.change.Change.TheVariants.{Start, Finish, Remove}

-- the two changes by which a node joins
abbrev pub changes_to_join : ℕ → List Change
changes_to_join n = Start n ∷ Finish n ∷ []

-- first each node of the second set that is not in the first joins, then each node of the first that is not in the
-- second is removed, both in the order of their set
abbrev pub route_of : List ℕ → List ℕ → List Change
route_of from to = flat_map changes_to_join (without to from) ++ map Remove (without from to)
