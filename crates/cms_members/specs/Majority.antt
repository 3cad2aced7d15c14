-- Majorities of the members, and when those of two sets meet.
use Rattle.std.specs.Prelude.{◌≡◌, ℕ, true, List, length}
use Rattle.std.specs.List.{list_any}
use Rattle.cluster_terms.specs.Quorum.{AreSome, quorum_of}
use Rattle.node_sets.specs.NodeSets.{has_node}

-- how many of the members are a majority: half of them, rounded down, plus one
abbrev pub majority_of : List ℕ → ℕ
majority_of members = quorum_of (length members)

-- different members, a majority of all
abbrev pub IsMajority : List ℕ → List ℕ → Type 0
IsMajority members some = AreSome (majority_of members) members some

-- each majority of the first set has a member in common with each majority of the second
abbrev pub MajoritiesMeet : List ℕ → List ℕ → Type 0
MajoritiesMeet members others =
    (some more : List ℕ) → IsMajority members some → IsMajority others more → list_any (has_node some) more ≡ true
