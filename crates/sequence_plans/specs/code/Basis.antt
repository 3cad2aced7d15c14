-- The values from which the ranges of an image's movements are computed.
use Rattle.std.specs.Prelude.{◌≡◌, true}
use Rattle.std.specs.List.{AllByRecursion}
use Rattle.std.specs.List.Sorted.{IsPermutation}
use Rattle.cluster_terms.specs.Pair.{has_pair}
use Rattle.transformations.specs.Ranges.{moved_by}
use Rattle.transformations.specs.Rings.{fixed_ring, widest}
use Rattle.transformations.specs.declared.image.Image.{Image}
use Rattle.transformations.specs.declared.sequence.SeqRow.{SeqRow}
use Rattle.placement_deltas.specs.Replications.{replications_of}
use Rattle.sequence_plans.specs.declared.basis.Basis.{Basis}

-- the basis has the image's fixed ring, by token, its widest set of pairs, its nodes, and the replications of its
-- keyspaces
pub record IsBasis (basis : Basis) : Type 0 where
  pub fixed : IsPermutation (fixed_ring basis.image.now) basis.fixed
  pub widest : basis.widest ≡ widest basis.image.now
  pub nodes : basis.directory.now.rows ≡ basis.image.now.nodes
  pub replications : basis.replications ≡ replications_of basis.image.now.keyspaces

-- the pairs that a movement takes out or puts in are among the widest set
abbrev pub MovesWithin : Image → SeqRow → Type 0
MovesWithin image s = AllByRecursion (λ p. has_pair (widest image) p ≡ true) (moved_by s)
