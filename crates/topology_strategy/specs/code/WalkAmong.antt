-- The walk along the pairs of one group.
use Rattle.std.specs.Prelude.{ℕ, List, [], ◌∷◌, Some}
use Rattle.topology_strategy.specs.Walk.{Found, found_with}

-- the walk after several nodes of the group are met, which have these racks
abbrev pub found_among : ℕ → List ℕ → List (List ℕ) → Found → Found
found_among wanted [] racks found = found
found_among wanted (n ∷ ns) [] found = found
found_among wanted (n ∷ ns) (rack ∷ racks) found = found_among wanted ns racks (found_with wanted n (Some rack) found)
