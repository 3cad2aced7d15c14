-- Small images, and the first rule that each of them breaks. Each fact is computed.
use Rattle.std.specs.Prelude.{◌≡◌, ℕ, ℤ, pos, [], ◌∷◌, Option, Some, None, refl, codes}
use Rattle.cluster_terms.specs.Reach.{reaches}
use Rattle.transformation_laws.proofs.computed.MovementRows.{six_nodes_image}
use Rattle.transformation_laws.proofs.computed.Rows.{dc1_node, four_nodes_image, joining_image, pair}
use Rattle.transformations.specs.ImageRules.{bad_of, broken_rule}
use Rattle.transformations.specs.Ranges.{in_ranges}
use Rattle.transformations.specs.Movements.{join_of, leave_of, replace_of}
use Rattle.transformations.specs.declared.image.Image.{Image}
use Rattle.transformations.specs.declared.image_rules.BadImage.{BadImage}
use Rattle.transformations.specs.declared.sequence.Phase.TheVariants.{Prepared, Mid}

abbrev pub broken_at : ℕ → ℤ → Option BadImage
broken_at n v = Some (record { rule = n; value = v })

-- a join breaks no rule, at each phase
pub joining : (bad_of (joining_image 12 Prepared) ≡ None) × (bad_of (joining_image 14 Mid) ≡ None)
unfolding bad_of broken_rule in_ranges reaches
joining = (refl, refl)

-- of the rules that an image breaks, the first is shown: here the tokens fall, a token has no node, and the epoch is
-- too great
pub first_rule : (broken_rule (record four_nodes_image { tokens = pair (pos 300) 9 ∷ pair (pos 200) 4 ∷ []; epoch = 65537 }) ≡ broken_at 5 (pos 65537))
    × (broken_rule (record four_nodes_image { tokens = pair (pos 300) 9 ∷ pair (pos 200) 4 ∷ [] }) ≡ broken_at 7 (pos 200))
    × (broken_rule (record four_nodes_image { tokens = pair (pos 200) 4 ∷ pair (pos 300) 9 ∷ pair (pos 400) 8 ∷ [] }) ≡ broken_at 8 (pos 300))
unfolding broken_rule
first_rule = (refl, refl, refl)

-- nodes out of order, a node with id 0, one whose id is the next one, and two nodes with one name
pub nodes : (broken_rule (record four_nodes_image { nodes = dc1_node 2 (codes "b") (codes "r1") ∷ dc1_node 1 (codes "a") (codes "r1") ∷ [] }) ≡ broken_at 2 (pos 1))
    × (broken_rule (record four_nodes_image { nodes = dc1_node 0 (codes "a") (codes "r1") ∷ [] }) ≡ broken_at 2 (pos 0))
    × (broken_rule (record four_nodes_image { nodes = dc1_node 7 (codes "a") (codes "r1") ∷ [] }) ≡ broken_at 3 (pos 7))
    × (broken_rule (record four_nodes_image { nodes = dc1_node 1 (codes "a") (codes "r1") ∷ dc1_node 3 (codes "a") (codes "r2") ∷ [] }) ≡ broken_at 4 (pos 3))
unfolding broken_rule
nodes = (refl, refl, refl, refl)

-- two movements of node 1, and two of the same tokens; the later movement's node or token is shown
pub movements : (broken_rule (record four_nodes_image { sequences = leave_of four_nodes_image.tokens 1 ∷ replace_of four_nodes_image.tokens 5 1 ∷ [] }) ≡ broken_at 15 (pos 5))
    × (broken_rule (record four_nodes_image { sequences = join_of 5 (pos 150 ∷ []) ∷ join_of 6 (pos 120 ∷ pos 150 ∷ []) ∷ [] }) ≡ broken_at 16 (pos 150))
    × (broken_rule (record four_nodes_image { sequences = join_of 5 (pos 100 ∷ pos 300 ∷ []) ∷ [] }) ≡ broken_at 16 (pos 100))
    × (broken_rule (record four_nodes_image { sequences = join_of 2 (pos 150 ∷ []) ∷ [] }) ≡ broken_at 14 (pos 2))
unfolding broken_rule
movements = (refl, refl, refl, refl)

-- two leaves that overlap break the last rule alone
abbrev pub two_leaves : Image
two_leaves = record six_nodes_image { sequences = leave_of six_nodes_image.tokens 2 ∷ leave_of six_nodes_image.tokens 4 ∷ [] }

pub overlapping : (broken_rule two_leaves ≡ None) × (bad_of two_leaves ≡ broken_at 18 (pos 4))
unfolding bad_of broken_rule in_ranges reaches
overlapping = (refl, refl)
