-- Movements stay apart where a keyspace is set under which none of them overlap, and where there are fewer keyspaces.
use Rattle.std.proofs.Common.{◌≡◌, ℕ, false, ◌&&◌, ℤ, List, [], ◌∷◌, map, get_or, Option, None}
use Rattle.std.specs.List.{AllByRecursion, IsDistinct}
use Rattle.cluster_terms.specs.Arc.{IsToken}
use Rattle.transformations.proofs.commands.AcceptedLemmas.{mapped_none, none_of}
use Rattle.transformations.proofs.lists.ListLemmas.{IsPart, all_both, all_false, all_from_map, all_weaker, any_false, part_all_of}
use Rattle.transformations.proofs.ranges.MovementRanges.{IsWithinWidest, moved_within, none_shared}
use Rattle.transformations.proofs.ranges.MovementsApart.{both_at, pairs_from_distinct}
use Rattle.transformations.specs.Ranges.{AreApart, first_shared, in_both, in_ranges}
use Rattle.transformations.specs.Refusals.{first_of, first_overlap, keyspace_locked, overlap_of, with_keyspace}
use Rattle.transformations.specs.Valid.{IsSound}
use Rattle.transformations.specs.declared.image.Image.{Image}
use Rattle.transformations.specs.declared.keyspace.KeyspaceRow.{KeyspaceRow}
use Rattle.transformations.specs.declared.refusal.Refusal.{Refusal}
use Rattle.transformations.specs.declared.refusal.Refusal.TheVariants.{KeyspaceLocked}
use Rattle.transformations.specs.declared.sequence.SeqRow.{SeqRow}

-- ---- a keyspace is set

-- no row between cuts is in the ranges of a movement and of a later one, if it overlaps none of them
pub overlaps_none : (image : Image) (s : SeqRow) (later : List SeqRow) → first_of (map (overlap_of image s) later) ≡ None → AllByRecursion (λ (q : SeqRow). first_shared image s q ≡ None) later
overlaps_none image s later none =
    all_weaker (λ (q : SeqRow). overlap_of image s q ≡ None) (λ (q : SeqRow). first_shared image s q ≡ None)
    (λ q free. mapped_none (KeyspaceLocked s.node q.node) (first_shared image s q) free) later
    (all_from_map (λ (r : Option Refusal). r ≡ None) (overlap_of image s) later (none_of (map (overlap_of image s) later) none))

-- and so no token is in the ranges of two movements
distinct_free : (image : Image) (x : ℤ) → IsToken x → (sequences : List SeqRow) → AllByRecursion (IsWithinWidest image) sequences → first_overlap image sequences ≡ None → IsDistinct (both_at image x) sequences
unfolding IsDistinct
distinct_free image x token [] within none = tt
distinct_free image x token (s ∷ later) within none =
    let free = none_of (first_of (map (overlap_of image s) later) ∷ first_overlap image later ∷ []) none in (
      all_both (IsWithinWidest image) (λ (q : SeqRow). first_shared image s q ≡ None) (λ (q : SeqRow). in_both image s q x ≡ false)
          (λ q there unshared. none_shared image s q within.0 there unshared x token) later within.1 (overlaps_none image s later free.0),
      distinct_free image x token later within.1 free.1.0,
    )

pub apart_unlocked : (image : Image) (k : KeyspaceRow) → IsSound image → keyspace_locked image k ≡ None → AreApart (with_keyspace image k)
unfolding keyspace_locked
apart_unlocked image k h none = λ x token.
    let after : Image = with_keyspace image k in
    pairs_from_distinct (both_at after x) image.sequences (distinct_free after x token image.sequences (moved_within image h) none)

-- ---- fewer keyspaces

-- a token that is in the ranges of both under none of the keyspaces is so under none of some of them
none_under : (image : Image) (keyspaces : List KeyspaceRow) → IsPart keyspaces image.keyspaces → (s q : SeqRow) (x : ℤ) → in_both image s q x ≡ false → in_both (record image { keyspaces = keyspaces }) s q x ≡ false
unfolding in_ranges
none_under image keyspaces part s q x none =
    any_false (λ (k : KeyspaceRow). in_ranges image k.replication s x && in_ranges image k.replication q x) keyspaces
    (part_all_of (λ (k : KeyspaceRow). (in_ranges image k.replication s x && in_ranges image k.replication q x) ≡ false) part
    (all_false (λ (k : KeyspaceRow). in_ranges image k.replication s x && in_ranges image k.replication q x) image.keyspaces none))

pub apart_fewer : (image : Image) (keyspaces : List KeyspaceRow) → IsPart keyspaces image.keyspaces → AreApart image → AreApart (record image { keyspaces = keyspaces })
apart_fewer image keyspaces part apart = λ x token i j d before within.
    none_under image keyspaces part (get_or image.sequences i d) (get_or image.sequences j d) x (apart x token i j d before within)

-- ---- another epoch

pub apart_later : (image : Image) (epoch : ℕ) → AreApart image → AreApart (record image { epoch = epoch })
unfolding in_ranges
apart_later image epoch apart = apart
