-- A movement that is prepared, and whose ranges are not locked: the others keep their ranges, and it overlaps none of
-- them.
use Rattle.std.proofs.Common.{◌≡◌, true, false, ◌&&◌, ◌==◌, ℤ, List, ◌∷◌, ◌++◌, map, Option, Some, None, option_and_then, refl, sym, ap, ◌∙◌, subst}
use Rattle.std.proofs.lemmas.List.Elements.{All-from_recursion, recursion_from_All}
use Rattle.std.proofs.lemmas.List.Sorted.{All-permutation, IsPermutation-sym}
use Rattle.std.specs.List.{AllByRecursion, list_any}
use Rattle.cluster_terms.proofs.reach.ReachKept.{IsNarrowed}
use Rattle.cluster_terms.specs.Arc.{IsToken}
use Rattle.cluster_terms.specs.Ascending.{put}
use Rattle.transformations.proofs.commands.AcceptedLemmas.{early_accepted, mapped_none, none_of, ranges_accepted}
use Rattle.transformations.proofs.movements.BeginLemmas.{begin_new, may_begin}
use Rattle.transformations.proofs.ranges.KeptRanges.{IsKept, kept_narrowed, ranges_alike}
use Rattle.transformations.proofs.ranges.KeptSteps.{narrowed_fewer}
use Rattle.transformations.proofs.lists.ListLemmas.{all_both, all_from_map, all_weaker}
use Rattle.transformations.proofs.movements.MovementLemmas.{flat_put, others_put, sequences_put}
use Rattle.transformations.proofs.pairs.OwnedLemmas.{has_append, has_permuted}
use Rattle.transformations.proofs.ranges.MovementRanges.{IsWithinWidest, moved_within, none_shared}
use Rattle.transformations.proofs.histories.SoundLemmas.{sound_prepared}
use Rattle.transformations.specs.History.{begun, is_command}
use Rattle.transformations.specs.Orders.{by_node}
use Rattle.transformations.specs.Ranges.{first_shared, in_both, in_ranges, moved_by}
use Rattle.transformations.specs.Refusals.{locked, locked_by, prepared_by, refusal_of, with_movement}
use Rattle.transformations.specs.Rings.{fixed_ring, incoming, outgoing, widest}
use Rattle.transformations.specs.Movements.{others}
use Rattle.transformations.specs.Valid.{IsSound}
use Rattle.transformations.specs.declared.command.Command.{Command}
use Rattle.transformations.specs.declared.image.Image.{Image}
use Rattle.transformations.specs.declared.keyspace.KeyspaceRow.{KeyspaceRow}
use Rattle.transformations.specs.declared.refusal.Refusal.{Refusal}
use Rattle.transformations.specs.declared.refusal.Refusal.TheVariants.{Locked}
use Rattle.transformations.specs.declared.sequence.SeqRow.{SeqRow}

-- no movement is of the node of a new one
abbrev pub IsNew : Image → SeqRow → Type 0
IsNew image j = AllByRecursion (λ (s : SeqRow). (s.node == j.node) ≡ false) image.sequences

-- ---- ranges that are not locked

-- no row between cuts is in the ranges of a movement that isn't locked and of another
pub unlocked : (image : Image) (s : SeqRow) → locked image s ≡ None → AllByRecursion (λ (q : SeqRow). first_shared image s q ≡ None) (others image.sequences s.node)
unfolding locked
unlocked image s none =
    let all : AllByRecursion (λ (q : SeqRow). locked_by image s q ≡ None) (others image.sequences s.node) =
    all_from_map (λ (r : Option Refusal). r ≡ None) (locked_by image s) (others image.sequences s.node) (none_of (map (locked_by image s) (others image.sequences s.node)) none) in
    all_weaker (λ (q : SeqRow). locked_by image s q ≡ None) (λ (q : SeqRow). first_shared image s q ≡ None) (λ q free. mapped_none (Locked q.node) (first_shared image s q) free) (others image.sequences s.node) all

-- ---- the new movement and the others

-- what holds of each movement once one is put in holds of it and of those before
all_put : (P : SeqRow → Type 0) (image : Image) (j : SeqRow) → IsNew image j → AllByRecursion P (put by_node j image.sequences) → AllByRecursion P (j ∷ image.sequences)
all_put P image j new all =
    recursion_from_All P (j ∷ image.sequences)
    (All-permutation P (put by_node j image.sequences) (j ∷ image.sequences) (IsPermutation-sym (j ∷ image.sequences) (put by_node j image.sequences) (sequences_put j image.sequences new))
    (All-from_recursion P (put by_node j image.sequences) all))

-- where it isn't locked no token is in its ranges and in those of another
apart_with : (image : Image) (j : SeqRow) → IsNew image j → IsSound (with_movement image j) → locked (with_movement image j) j ≡ None → (x : ℤ) → IsToken x
    → AllByRecursion (λ (s : SeqRow). in_both (with_movement image j) j s x ≡ false) image.sequences
apart_with image j new h none x token =
    let wide : Image = with_movement image j in
    let within : AllByRecursion (IsWithinWidest wide) (j ∷ image.sequences) = all_put (IsWithinWidest wide) image j new (moved_within wide h) in
    all_both (IsWithinWidest wide) (λ (s : SeqRow). first_shared wide j s ≡ None) (λ (s : SeqRow). in_both wide j s x ≡ false)
    (λ s there free. none_shared wide j s within.0 there free x token) image.sequences within.1
    (subst (λ sequences. AllByRecursion (λ (s : SeqRow). first_shared wide j s ≡ None) sequences) (others_put j image.sequences new) (unlocked wide j none))

-- without it again, the pairs are those that others leave and bring
narrowed_with : (image : Image) (j : SeqRow) → IsNew image j
    → IsNarrowed (moved_by j) (fixed_ring (with_movement image j)) (widest (with_movement image j)) (fixed_ring image) (widest image)
narrowed_with image j new =
    let wide : List SeqRow = put by_node j image.sequences in
    narrowed_fewer image wide image.sequences j
    (λ p. sym (has_append j.out_pairs (outgoing image.sequences) p ∙ has_permuted (j.out_pairs ++ outgoing image.sequences) (outgoing wide) (flat_put (λ (q : SeqRow). q.out_pairs) j image.sequences new) p))
    (λ p. sym (has_append j.in_pairs (incoming image.sequences) p ∙ has_permuted (j.in_pairs ++ incoming image.sequences) (incoming wide) (flat_put (λ (q : SeqRow). q.in_pairs) j image.sequences new) p))

-- ---- the command

module _ (image : Image) (c : Command) (j : SeqRow) (h : IsSound image) (right : is_command c ≡ true) (none : refusal_of image c ≡ None) (is : prepared_by image.tokens c ≡ Some j) where
  pub new_movement : IsNew image j
  new_movement = begin_new image j (may_begin image c j h right (early_accepted image c none) is)

  sound_wide : IsSound (with_movement image j)
  sound_wide = sound_prepared image c j h right (early_accepted image c none) is

  free : locked (with_movement image j) j ≡ None
  free = sym (ap (option_and_then (λ s. locked (with_movement image s) s)) is) ∙ ranges_accepted image c none

  module _ (x : ℤ) (token : IsToken x) where
    wide_apart : AllByRecursion (λ (s : SeqRow). in_both (with_movement image j) j s x ≡ false) image.sequences
    wide_apart = apart_with image j new_movement sound_wide free x token

    -- the epoch is of no account
    later : (k : KeyspaceRow) (s : SeqRow) → in_ranges (with_movement image j) k.replication s x ≡ in_ranges (begun image j) k.replication s x
    later k s = ranges_alike (with_movement image j) (begun image j) k.replication x s s refl refl refl refl

    -- the new movement overlaps none of the others
    pub apart_begun : AllByRecursion (λ (s : SeqRow). in_both (begun image j) j s x ≡ false) image.sequences
    apart_begun =
        let wide : Image = with_movement image j in
        let after : Image = begun image j in
        all_weaker (λ (s : SeqRow). in_both wide j s x ≡ false) (λ (s : SeqRow). in_both after j s x ≡ false)
        (λ s apart. sym (λ i. list_any (λ k. later k j i && later k s i) image.keyspaces) ∙ apart) image.sequences wide_apart

    -- and these keep their ranges
    pub kept_begun : AllByRecursion (IsKept image (begun image j) x) image.sequences
    kept_begun =
        let wide : Image = with_movement image j in
        let after : Image = begun image j in
        all_weaker (λ (s : SeqRow). in_both wide j s x ≡ false) (IsKept image after x)
        (λ s apart. all_weaker (λ (k : KeyspaceRow). in_ranges wide k.replication s x ≡ in_ranges image k.replication s x) (λ (k : KeyspaceRow). in_ranges image k.replication s x ≡ in_ranges after k.replication s x)
        (λ k same. sym same ∙ later k s) image.keyspaces
        (kept_narrowed wide image x j s (λ r. refl) (narrowed_with image j new_movement) apart))
        image.sequences wide_apart
