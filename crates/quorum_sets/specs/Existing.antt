-- When quorums exist.
use Rattle.std.specs.Prelude.{◌≡◌, ℕ, true, List, length, nat_le}
use Rattle.node_sets.specs.NodeSets.{has_node}

-- each of the first nodes is among the second nodes
abbrev pub AreAmong : List ℕ → List ℕ → Type 0
AreAmong ns ms = (n : ℕ) → has_node ns n ≡ true → has_node ms n ≡ true

-- if each node that is read is written, a write quorum exists if and only if a read quorum does. A quorum exists if
-- there are at least as many nodes as it needs
abbrev pub ExistTogether : List ℕ → ℕ → List ℕ → ℕ → Type 0
ExistTogether reads read_need writes write_need =
    AreAmong reads writes → nat_le write_need (length writes) ≡ nat_le read_need (length reads)
