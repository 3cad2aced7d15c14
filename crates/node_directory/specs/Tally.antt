-- Tallies of the nodes and the racks met so far, up to the numbers asked for.
use Rattle.std.specs.Prelude.{ℕ, Bool, not, ◌&&◌, ◌||◌, if◌then◌else◌, List, [], ◌∷◌, ◌++◌, length, map, nat_eq, nat_lt, Option, Some, None}
use Rattle.std.specs.Borrow.{Bor}
use Rattle.std.specs.Set.{is_member}
use Rattle.std.specs.Str.{bytes_eq}
use Rattle.cluster_terms.specs.Group.{Group}

-- distinct nodes and racks, and how many of each are asked for
pub record Tallied : Type 0 where
  pub most_nodes : ℕ
  pub most_racks : ℕ
  pub nodes : List ℕ
  pub racks : List (List ℕ)

-- the names of borrowed racks
abbrev pub racks_in : List (Bor (List ℕ)) → List (List ℕ)
racks_in racks = map (λ rack. rack.now) racks

-- the empty tally
abbrev pub nothing : ℕ → ℕ → Tallied
nothing most_nodes most_racks = record { most_nodes = most_nodes; most_racks = most_racks; nodes = []; racks = [] }

-- the list with x added, if x is new and the list has fewer than `most` items
abbrev pub with_new : {X : Type 0} → (X → X → Bool) → ℕ → X → List X → List X
with_new eq most x xs = if nat_lt (length xs) most && not (is_member eq xs x) then xs ++ x ∷ [] else xs

-- the tally after a node of this rack is met; a node outside the group leaves it unchanged
abbrev pub met_with : ℕ → Option (List ℕ) → Tallied → Tallied
met_with n None tally = tally
met_with n (Some rack) tally =
    record tally { nodes = with_new nat_eq tally.most_nodes n tally.nodes; racks = with_new bytes_eq tally.most_racks rack tally.racks }

-- the tally after a node is met
abbrev pub met : Group → ℕ → Tallied → Tallied
met g n tally = met_with n (g.rack_of n) tally

-- whether the tally has fewer nodes or fewer racks than asked for
abbrev pub lacks : Tallied → Bool
lacks tally = nat_lt (length tally.nodes) tally.most_nodes || nat_lt (length tally.racks) tally.most_racks
