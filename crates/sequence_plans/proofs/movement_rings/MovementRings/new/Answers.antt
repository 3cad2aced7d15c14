use Rattle.cluster_terms.specs.Pair.{tokens_of}
use Rattle.token_ring.proofs.DistinctLemmas.{distinct_tokens}
use Rattle.transformations.proofs.pairs.WidestLemmas.{applied-tokens, widest-tokens}
use Rattle.transformations.specs.Rings.{low_ring, replaced}
use Rattle.sequence_plans.proofs.movement_rings.MovementRings.new.Goals as goal

pub from_distinct-requires : goal.from_distinct-requires
from_distinct-requires c =
    let image = c.args.image.now in
    rw (c.as_slice.ensures, c.tokens.ensures) (distinct_tokens (tokens_of (low_ring image)) (widest-tokens image c.requires.sound).0)

pub from_list-requires : goal.from_list-requires
from_list-requires c =
    let image = c.args.image.now in
    let s = c.args.row.now in
    rw c.in_ok-after.ensures
    (distinct_tokens (tokens_of (replaced (low_ring image) s.out_pairs s.in_pairs)) (applied-tokens image s c.requires.sound c.requires.moves))
