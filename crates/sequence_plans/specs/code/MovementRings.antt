-- The rings of a movement: the low ring, and the low ring with the movement applied.
use Rattle.std.specs.Prelude.{◌≡◌, ℤ}
use Rattle.std.specs.List.{Contains}
use Rattle.std.specs.List.Sorted.{IsPermutation}
use Rattle.cluster_terms.specs.declared.replication.Replication.{Replication}
use Rattle.transformations.specs.MovementDeltas.{placed_before, placed_with}
use Rattle.transformations.specs.Ranges.{moved_by}
use Rattle.transformations.specs.Rings.{low_ring, replaced}
use Rattle.transformations.specs.Valid.{IsSound}
use Rattle.transformations.specs.declared.image.Image.{Image}
use Rattle.transformations.specs.declared.sequence.SeqRow.{SeqRow}
use Rattle.replica_placer.specs.Placers.{placed_by}
use Rattle.sequence_plans.specs.declared.movement_rings.MovementPlacers.{MovementPlacers}
use Rattle.sequence_plans.specs.declared.movement_rings.MovementRings.{MovementRings}

-- a movement of a sound image, whose nodes the directory has, and the pairs of the low ring without it and with it
pub record AreMovementRings (rings : MovementRings) : Type 0 where
  pub sound : IsSound rings.image.now
  pub moves : Contains rings.image.now.sequences rings.row.now
  pub moved : rings.moved ≡ moved_by rings.row.now
  pub nodes : rings.directory.now.rows ≡ rings.image.now.nodes
  pub before : IsPermutation (low_ring rings.image.now) rings.before
  pub after : IsPermutation (replaced (low_ring rings.image.now) rings.row.now.out_pairs rings.row.now.in_pairs) rings.after

-- the placers give the replicas on these rings
pub record PlacesMovement (image : Image) (s : SeqRow) (r : Replication) (placers : MovementPlacers) : Type 0 where
  pub before : (x : ℤ) → placed_by placers.before x ≡ placed_before image r x
  pub after : (x : ℤ) → placed_by placers.after x ≡ placed_with image r s x
