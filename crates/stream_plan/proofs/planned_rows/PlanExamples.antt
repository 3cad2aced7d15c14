-- Stream plans of small clusters, computed: a node joins four others at 150, at each phase, and a node joins an empty
-- ring.
use Rattle.std.specs.Prelude.{◌≡◌, pos, [], ◌∷◌, Some, None, refl, codes}
use Rattle.cluster_terms.specs.Group.{is_chosen_rack, is_replica, place}
use Rattle.cluster_terms.specs.declared.replication.Replication.TheVariants.{Simple}
use Rattle.cluster_terms.specs.declared.token.RightEnd.TheVariants.{At, Max}
use Rattle.transformation_laws.proofs.computed.Rows.{dc1_node, joining_image, keyspace}
use Rattle.transformations.specs.MovementDeltas.{placed_before, placed_with}
use Rattle.transformations.specs.Movements.{join_of}
use Rattle.transformations.specs.declared.image.Image.{Image}
use Rattle.transformations.specs.declared.sequence.Phase.TheVariants.{Prepared, Mid}
use Rattle.stream_plan.specs.Streams.{streams}
use Rattle.stream_plan.specs.declared.stream_row.StreamFrom.TheVariants.{AnyOf, Strict}

join_planned : streams (joining_image 12 Prepared) 5 (codes "ks")
    ≡ Some
    ((record { left = None; right = At (pos 0); to = 5; from = Strict 3 })
    ∷ (record { left = Some (pos 0); right = At (pos 100); to = 5; from = Strict 4 })
    ∷ (record { left = Some (pos 100); right = At (pos 150); to = 5; from = Strict 1 })
    ∷ (record { left = Some (pos 300); right = Max; to = 5; from = Strict 3 }) ∷ [])
unfolding placed_before placed_with place is_replica is_chosen_rack
join_planned = refl

half_way : streams (joining_image 14 Mid) 5 (codes "ks") ≡ streams (joining_image 12 Prepared) 5 (codes "ks")
unfolding placed_before placed_with place is_replica is_chosen_rack
half_way = refl

-- the first node of a ring, so far
abbrev first_image : Image
first_image = record { epoch = 3; next = 2; nodes = dc1_node 1 (codes "a") (codes "r1") ∷ []; tokens = []; keyspaces = keyspace (codes "ks") (Simple 1) ∷ []; sequences = join_of 1 (pos 0 ∷ []) ∷ [] }

ring_begun : streams first_image 1 (codes "ks")
    ≡ Some
    ((record { left = None; right = At (pos 0); to = 1; from = AnyOf [] })
    ∷ (record { left = Some (pos 0); right = Max; to = 1; from = AnyOf [] }) ∷ [])
unfolding placed_before placed_with place is_replica is_chosen_rack
ring_begun = refl

-- no movement, and no keyspace
none_planned : (streams first_image 2 (codes "ks") ≡ None) × (streams first_image 1 (codes "kt") ≡ None)
none_planned = (refl, refl)
