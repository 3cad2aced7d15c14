-- What the parts of a `Metadata` are to one another.
use Rattle.std.specs.Prelude.{◌≡◌, List, []}
use Rattle.node_directory.specs.Directory.{Registry}
use Rattle.token_ring.specs.declared.range_book.LockRow.{LockRow}
use Rattle.transformations.specs.Meeting.{HaveReplications}
use Rattle.transformations.specs.Valid.{IsValid}
use Rattle.transformations.specs.declared.image.Image.{Image}
use Rattle.sequence_plans.specs.Locks.{AreLocksOf}
use Rattle.placement_maps.specs.code.ShownMaps.{AreMaps}
use Rattle.cluster_metadata.specs.code.Running.{HaveDeltas, IsRunning}
use Rattle.range_placements.specs.declared.map_row.MapRow.{MapRow}
use Rattle.cluster_metadata.specs.declared.movements.running.Running.{Running}
use Rattle.cluster_metadata.specs.Metadata.{directory_of}

-- the image is valid, each of its keyspaces has a replication, and there are the directory of its nodes, its placement
-- maps, the values of its movements, and their locks. The plan of each movement has the movement's deltas in this
-- image
pub record IsMetadata (image : Image) (dir : Registry) (book : List MapRow) (values : List Running) (table : List LockRow) : Type 0 where
  pub valid : IsValid image
  pub replications : HaveReplications image
  pub directory : dir ≡ directory_of image
  pub maps : AreMaps image book
  pub running : IsRunning image.sequences values
  pub deltas : HaveDeltas image values
  pub locks : AreLocksOf image image.sequences table

-- an image without movements, and another that differs from it at most in the epoch and in the id of the next node
pub record DiffersInNumbers (image other : Image) : Type 0 where
  pub idle : image.sequences ≡ []
  pub rest : other ≡ record image { epoch = other.epoch; next = other.next }
