-- The rings of a valid image: their tokens, and how many nodes they place.
use Rattle.std.proofs.Common.{◌≡◌, ◌≤◌, true, ℤ, length}
use Rattle.cluster_terms.specs.Pair.{tokens_of}
use Rattle.token_ring.proofs.DistinctLemmas.{distinct_tokens}
use Rattle.token_ring.specs.Ring.{are_distinct}
use Rattle.cluster_terms.specs.declared.replication.Replication.{Replication}
use Rattle.transformation_laws.proofs.nodes.RegisteredLemmas.{writes_few}
use Rattle.transformations.proofs.pairs.WidestLemmas.{widest-tokens}
use Rattle.transformations.specs.Rings.{high_ring, low_ring, read_ring, writes_at}
use Rattle.transformations.specs.Valid.{IsValid}
use Rattle.transformations.specs.declared.image.Image.{Image}

-- those of each ring are distinct
module _ (image : Image) (valid : IsValid image) where
  pub low_tokens : are_distinct (tokens_of (low_ring image)) ≡ true
  low_tokens = distinct_tokens (tokens_of (low_ring image)) (widest-tokens image valid.sound).0

  pub read_tokens : are_distinct (tokens_of (read_ring image)) ≡ true
  read_tokens = distinct_tokens (tokens_of (read_ring image)) (widest-tokens image valid.sound).1

  pub high_tokens : are_distinct (tokens_of (high_ring image)) ≡ true
  high_tokens = distinct_tokens (tokens_of (high_ring image)) (widest-tokens image valid.sound).2

  -- no more nodes are written than are registered
  pub few_served : (replication : Replication) (x : ℤ) → length (writes_at image replication x) ≤ 1024
  few_served = writes_few image valid.sound
