-- Quorums of small clusters, and which of them meet. Each fact is computed.
use Rattle.std.specs.Prelude.{◌≡◌, ℕ, false, true, pos, List, [], ◌∷◌, ◌++◌, refl, codes}
use Rattle.cluster_terms.specs.Group.{is_chosen_rack, is_replica, place}
use Rattle.cluster_terms.specs.Quorum.{Sets, writes_meet_reads}
use Rattle.cluster_terms.specs.declared.node.NodeRow.{NodeRow}
use Rattle.cluster_terms.specs.declared.replication.Replication.{Replication}
use Rattle.cluster_terms.specs.declared.replication.Replication.TheVariants.{Simple, Topology}
use Rattle.transformation_laws.proofs.computed.Rows.{dc1_node, joining_image, one_node_image, pair, racks_image}
use Rattle.transformations.specs.History.{next_image}
use Rattle.transformations.specs.Meeting.{makes_movement_epoch, local_sets_at, sets_at}
use Rattle.transformations.specs.Rings.{reads_at, writes_at}
use Rattle.transformations.specs.declared.command.Command.TheVariants.{Cancel, DropKeyspace, Keyspace, Register, Step, UnsafeJoin}
use Rattle.transformations.specs.declared.image.Image.{Image}
use Rattle.transformations.specs.declared.sequence.Goal.TheVariants as goal
use Rattle.transformations.specs.declared.sequence.Kind.TheVariants.{Join}
use Rattle.transformations.specs.declared.sequence.Phase.TheVariants.{Prepared, Started, Mid}

abbrev pub sets : ℕ → List ℕ → List ℕ → Sets
sets total reads writes = record { total = total; reads = reads; writes = writes }

-- ---- a join, step by step

abbrev pub joined_image : Image
joined_image = next_image (joining_image 14 Mid) (Step goal.Finish Join 5)

pub sets_of_a_join : (sets_at (joining_image 12 Prepared) (Simple 3) (pos 50) ≡ sets 3 (2 ∷ 3 ∷ 4 ∷ []) (2 ∷ 3 ∷ 4 ∷ []))
    × (sets_at (joining_image 13 Started) (Simple 3) (pos 50) ≡ sets 3 (2 ∷ 3 ∷ 4 ∷ []) (2 ∷ 3 ∷ 4 ∷ 5 ∷ []))
    × (sets_at (joining_image 14 Mid) (Simple 3) (pos 50) ≡ sets 3 (2 ∷ 3 ∷ 5 ∷ []) (2 ∷ 3 ∷ 4 ∷ 5 ∷ []))
    × (sets_at joined_image (Simple 3) (pos 50) ≡ sets 3 (2 ∷ 3 ∷ 5 ∷ []) (2 ∷ 3 ∷ 5 ∷ []))
unfolding next_image reads_at writes_at place is_replica is_chosen_rack
sets_of_a_join = (refl, refl, refl, refl)

-- quorums before and after each step meet, and those further apart needn't
pub quorums_of_a_join : (writes_meet_reads (sets_at (joining_image 13 Started) (Simple 3) (pos 50)) (sets_at (joining_image 14 Mid) (Simple 3) (pos 50)) ≡ true)
    × (writes_meet_reads (sets_at joined_image (Simple 3) (pos 50)) (sets_at (joining_image 14 Mid) (Simple 3) (pos 50)) ≡ true)
    × (writes_meet_reads (sets_at joined_image (Simple 3) (pos 50)) (sets_at (joining_image 13 Started) (Simple 3) (pos 50)) ≡ false)
    × (writes_meet_reads (sets_at (joining_image 12 Prepared) (Simple 3) (pos 50)) (sets_at (joining_image 14 Mid) (Simple 3) (pos 50)) ≡ false)
unfolding next_image reads_at writes_at place is_replica is_chosen_rack
quorums_of_a_join = (refl, refl, refl, refl)

-- ---- in a datacenter

-- nodes 1 to 4 of dc1, and node 5 of dc2 at 400
abbrev pub two_datacenters : Image
two_datacenters =
    let other : NodeRow = record { id = 5; name = codes "e"; dc = codes "dc2"; rack = codes "a"; left = false } in
    record racks_image { next = 6; nodes = racks_image.nodes ++ other ∷ []; tokens = racks_image.tokens ++ pair (pos 400) 5 ∷ [] }

abbrev pub three_and_one : Replication
three_and_one = Topology ((codes "dc1", 3) ∷ (codes "dc2", 1) ∷ [])

pub local_sets : (sets_at two_datacenters three_and_one (pos 0) ≡ sets 4 (1 ∷ 2 ∷ 4 ∷ 5 ∷ []) (1 ∷ 2 ∷ 4 ∷ 5 ∷ []))
    × (local_sets_at two_datacenters three_and_one (codes "dc1", 3) (pos 0) ≡ sets 3 (1 ∷ 2 ∷ 4 ∷ []) (1 ∷ 2 ∷ 4 ∷ []))
    × (local_sets_at two_datacenters three_and_one (codes "dc2", 1) (pos 0) ≡ sets 1 (5 ∷ []) (5 ∷ []))
unfolding reads_at writes_at place is_replica is_chosen_rack
local_sets = (refl, refl, refl)

-- were a datacenter named twice, its nodes could be more than a factor of it says
abbrev pub named_twice : Replication
named_twice = Topology ((codes "dc1", 1) ∷ (codes "dc1", 3) ∷ [])

pub quorums_named_twice :
    writes_meet_reads (local_sets_at racks_image named_twice (codes "dc1", 1) (pos 0)) (local_sets_at racks_image named_twice (codes "dc1", 1) (pos 0)) ≡ false
unfolding reads_at writes_at place is_replica is_chosen_rack
quorums_named_twice = refl

-- ---- what makes a movement epoch

pub movements : (makes_movement_epoch (codes "ks") (Register (codes "f") (codes "dc1") (codes "r1")) ≡ true)
    × (makes_movement_epoch (codes "ks") (Step goal.Mid Join 5) ≡ true)
    × (makes_movement_epoch (codes "ks") (Cancel 5) ≡ true)
    × (makes_movement_epoch (codes "ks") (UnsafeJoin 2 (pos 100 ∷ [])) ≡ false)
    × (makes_movement_epoch (codes "ks") (Keyspace (codes "ks") (Simple 3)) ≡ false)
    × (makes_movement_epoch (codes "ks") (Keyspace (codes "kt") (Simple 3)) ≡ true)
    × (makes_movement_epoch (codes "ks") (DropKeyspace (codes "ks")) ≡ false)
    × (makes_movement_epoch (codes "ks") (DropKeyspace (codes "kt")) ≡ true)
movements = (refl, refl, refl, refl, refl, refl, refl, refl)

-- tokens that are given at once part the quorums before from those after
abbrev pub unjoined_image : Image
unjoined_image = record one_node_image { epoch = 4; next = 3; nodes = one_node_image.nodes ++ dc1_node 2 (codes "b") (codes "r1") ∷ [] }

pub quorums_of_an_unsafe_join : (sets_at unjoined_image (Simple 1) (pos 50) ≡ sets 1 (1 ∷ []) (1 ∷ []))
    × (sets_at (next_image unjoined_image (UnsafeJoin 2 (pos 100 ∷ []))) (Simple 1) (pos 50) ≡ sets 1 (2 ∷ []) (2 ∷ []))
    × (writes_meet_reads (sets_at unjoined_image (Simple 1) (pos 50)) (sets_at (next_image unjoined_image (UnsafeJoin 2 (pos 100 ∷ []))) (Simple 1) (pos 50)) ≡ false)
unfolding next_image reads_at writes_at place is_replica is_chosen_rack
quorums_of_an_unsafe_join = (refl, refl, refl)
