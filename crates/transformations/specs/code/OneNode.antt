-- Movements whose outgoing pairs are of one node.
use Rattle.std.specs.Prelude.{◌≡◌, ℕ, Bool, false, ◌||◌, Option, Some, None, ◌==◌}
use Rattle.std.specs.List.{AllByRecursion}
use Rattle.transformations.specs.Movements.{first_node}
use Rattle.transformations.specs.declared.sequence.SeqRow.{SeqRow}

-- all pairs that a movement takes out are of one node
abbrev pub IsOfOneNode : SeqRow → Type 0
IsOfOneNode s = AllByRecursion (λ p. first_node s.out_pairs ≡ Some p.node) s.out_pairs

-- whether there is a node and it passes a test
abbrev pub passes : (ℕ → Bool) → Option ℕ → Bool
passes test None = false
passes test (Some n) = test n

-- whether a node is the node of a movement, or of the first pair that the movement takes out
abbrev pub is_in : SeqRow → ℕ → Bool
is_in s n = (s.node == n) || passes (λ gone. gone == n) (first_node s.out_pairs)

-- whether the node of a movement, or of the first pair that it takes out, is so in another movement
abbrev pub meets : SeqRow → SeqRow → Bool
meets s q = is_in q s.node || passes (is_in q) (first_node s.out_pairs)
