-- The commands that are accepted keep an image valid: no two of its movements overlap afterwards.
use Rattle.std.proofs.Common.{◌≡◌, ℕ, ◌+◌, ◌<◌, Bool, true, false, not, ◌==◌, ℤ, List, [], ◌∷◌, filter, map, Some, None, refl, sym, subst, ◌&&◌}
use Rattle.std.proofs.lemmas.Bool.{not-true}
use Rattle.std.proofs.lemmas.Map.Keys.{IsDistinct-IsPermutation, IsDistinct-cons}
use Rattle.std.specs.List.{AllByRecursion, IsDistinct, list_any}
use Rattle.std.specs.Str.{bytes_eq}
use Rattle.cluster_terms.specs.Arc.{IsToken}
use Rattle.transformations.proofs.commands.AcceptedLemmas.{early_accepted, keyspace_unlocked, unsafe_join_idle}
use Rattle.transformations.proofs.ranges.MovementsApart.{both_at, both_flips, distinct_alike, distinct_map, pairs_from_distinct}
use Rattle.transformations.proofs.movements.DoneLemmas.{done}
use Rattle.transformations.proofs.ranges.KeptRanges.{IsKept, both_kept, ranges_alike}
use Rattle.transformations.proofs.ranges.KeptNodes.{kept_register, kept_unregister}
use Rattle.transformations.proofs.ranges.KeptSteps.{kept_phase}
use Rattle.transformations.proofs.ranges.KeyspacesApart.{apart_fewer, apart_later, apart_unlocked}
use Rattle.transformations.proofs.lists.ListLemmas.{all_filter, all_weaker, part_distinct, part_filter}
use Rattle.transformations.proofs.movements.MovementLemmas.{phase_moved, sequences_put}
use Rattle.transformations.proofs.ranges.PreparedLemmas.{apart_begun, kept_begun, new_movement}
use Rattle.transformations.proofs.ranges.RangesKept.{apart_at, cancel_by, finish_by, kept_later, others_done, others_given_up, without_it}
use Rattle.transformations.proofs.histories.SoundLemmas.{sound_empty, sound_next}
use Rattle.transformations.specs.History.{begun, empty_image, is_command, most_epochs, next_image}
use Rattle.transformations.specs.Ranges.{AreApart}
use Rattle.transformations.specs.Refusals.{keyspace_row, prepared_by, refusal_of, with_keyspace}
use Rattle.transformations.specs.Movements.{at_phase, join_of, leave_of, move_of, others, replace_of}
use Rattle.transformations.specs.Valid.{IsValid}
use Rattle.transformations.specs.declared.command.Command.{Command}
use Rattle.transformations.specs.declared.command.Command.TheVariants.{Register, Unregister, UnsafeJoin, Keyspace, DropKeyspace, PrepareJoin, PrepareMove, PrepareLeave, PrepareReplace, Step, Cancel}
use Rattle.transformations.specs.declared.image.Image.{Image}
use Rattle.transformations.specs.declared.keyspace.KeyspaceRow.{KeyspaceRow}
use Rattle.transformations.specs.declared.sequence.Goal.{Goal}
use Rattle.transformations.specs.declared.sequence.Goal.TheVariants as goal
use Rattle.transformations.specs.declared.sequence.Kind.{Kind}
use Rattle.transformations.specs.declared.sequence.Phase.{Phase}
use Rattle.transformations.specs.declared.sequence.Phase.TheVariants.{Started, Mid}
use Rattle.transformations.specs.declared.sequence.SeqRow.{SeqRow}

-- ---- movements that keep their ranges stay apart

module _ (before after : Image) (same : before.keyspaces ≡ after.keyspaces) (x : ℤ) where
  distinct_kept : (sequences : List SeqRow) → AllByRecursion (IsKept before after x) sequences → IsDistinct (both_at before x) sequences → IsDistinct (both_at after x) sequences
  distinct_kept = distinct_alike (both_at before x) (both_at after x) (IsKept before after x) (both_kept before after x same)

-- where there are no movements, none overlap
apart_none : (image : Image) → image.sequences ≡ [] → AreApart image
unfolding IsDistinct
apart_none image none = λ x token. pairs_from_distinct (both_at image x) image.sequences (subst (λ l. IsDistinct (both_at image x) l) (sym none) tt)

-- the same movements
apart_same : (before after : Image) → before.keyspaces ≡ after.keyspaces → before.sequences ≡ after.sequences → IsValid before → ((x : ℤ) → IsToken x → AllByRecursion (IsKept before after x) before.sequences) → AreApart after
apart_same before after keyspaces sequences h kept = λ x token.
    pairs_from_distinct (both_at after x) after.sequences
    (subst (λ l. IsDistinct (both_at after x) l) sequences (distinct_kept before after keyspaces x before.sequences (kept x token) (apart_at before h x token)))

-- ---- steps

-- one of them in another phase
apart_phase : (phase : Phase) (image : Image) (n epoch : ℕ) → IsValid image → AreApart (record image { epoch = epoch; sequences = map (at_phase phase n) image.sequences })
apart_phase phase image n epoch h = λ x token.
    let after : Image = record image { epoch = epoch; sequences = map (at_phase phase n) image.sequences } in
    let own : (s q : SeqRow) → both_at after x s q ≡ both_at after x (at_phase phase n s) (at_phase phase n q) =
    λ s q. λ i. list_any (λ k. ranges_alike after after k.replication x s (at_phase phase n s) refl refl refl (sym (phase_moved phase n s)) i
    && ranges_alike after after k.replication x q (at_phase phase n q) refl refl refl (sym (phase_moved phase n q)) i) after.keyspaces in
    let kept = distinct_kept image after refl x image.sequences (kept_phase phase image n epoch x) (apart_at image h x token) in
    pairs_from_distinct (both_at after x) after.sequences
    (distinct_map (both_at after x) (at_phase phase n) image.sequences
    (distinct_alike (both_at after x) (λ s q. both_at after x (at_phase phase n s) (at_phase phase n q)) (IsKept image after x) (λ s q one other. own s q) image.sequences (kept_phase phase image n epoch x) kept))

-- without one of them, whose node others are not
apart_others : (image after : Image) (s : SeqRow) → after.sequences ≡ others image.sequences s.node → image.keyspaces ≡ after.keyspaces → IsValid image
    → ((x : ℤ) → IsToken x → AllByRecursion (λ q. (q.node == s.node) ≡ false → IsKept image after x q) image.sequences) → AreApart after
apart_others image after s same keyspaces h each = λ x token.
    let other : SeqRow → Bool = λ q. not (q.node == s.node) in
    let kept : AllByRecursion (IsKept image after x) (others image.sequences s.node) =
    all_filter other (IsKept image after x) image.sequences
    (all_weaker (λ (q : SeqRow). (q.node == s.node) ≡ false → IsKept image after x q) (λ (q : SeqRow). other q ≡ true → IsKept image after x q)
    (λ q kept passes. kept (not-true (q.node == s.node) passes)) image.sequences (each x token)) in
    pairs_from_distinct (both_at after x) after.sequences
    (subst (λ l. IsDistinct (both_at after x) l) (sym same)
    (distinct_kept image after keyspaces x (others image.sequences s.node) kept (part_distinct (both_at image x) (part_filter other image.sequences) (apart_at image h x token))))

apart_step : (image : Image) (g : Goal) (kind : Kind) (n : ℕ) → IsValid image → AreApart (next_image image (Step g kind n))
unfolding next_image
apart_step image goal.Start kind n h = apart_phase Started image n (image.epoch + 1) h
apart_step image goal.Mid kind n h = apart_phase Mid image n (image.epoch + 1) h
apart_step image goal.Finish kind n h =
    finish_by AreApart image n (image.epoch + 1)
    (λ none. apart_same image (record image { epoch = image.epoch + 1 }) refl refl h (λ x token. kept_later image (image.epoch + 1) x))
    (λ s found. apart_others image (done image s (image.epoch + 1)) s refl refl h (others_done image s (image.epoch + 1) found h))

apart_cancel : (image : Image) (n : ℕ) → IsValid image → AreApart (next_image image (Cancel n))
unfolding next_image
apart_cancel image n h =
    cancel_by AreApart image n (image.epoch + 1)
    (λ none. apart_same image (record image { epoch = image.epoch + 1 }) refl refl h (λ x token. kept_later image (image.epoch + 1) x))
    (apart_phase Started image n (image.epoch + 1) h)
    (λ s found. apart_others image (without_it image s (image.epoch + 1) found h) s refl refl h (others_given_up image s (image.epoch + 1) found h))

-- ---- commands

apart_prepared : (image : Image) (c : Command) (j : SeqRow) → IsValid image → is_command c ≡ true → refusal_of image c ≡ None → prepared_by image.tokens c ≡ Some j → AreApart (begun image j)
apart_prepared image c j h right none is = λ x token.
    let after : Image = begun image j in
    let kept : IsDistinct (both_at after x) image.sequences =
    distinct_kept image after refl x image.sequences (kept_begun image c j h.sound right none is x token) (apart_at image h x token) in
    pairs_from_distinct (both_at after x) after.sequences
    (IsDistinct-IsPermutation (both_at after x) (both_flips after x) (j ∷ image.sequences) after.sequences (sequences_put j image.sequences (new_movement image c j h.sound right none is))
    (IsDistinct-cons (both_at after x) j image.sequences (apart_begun image c j h.sound right none is x token) kept))

apart_next : (image : Image) (c : Command) → IsValid image → is_command c ≡ true → refusal_of image c ≡ None → AreApart (next_image image c)
unfolding next_image
apart_next image (Register name dc rack) h right none =
    apart_same image (next_image image (Register name dc rack)) refl refl h (λ x token. kept_register image name dc rack h.sound x)
apart_next image (Unregister n) h right none =
    apart_same image (next_image image (Unregister n)) refl refl h (λ x token. kept_unregister image n h.sound (early_accepted image (Unregister n) none) x)
apart_next image (UnsafeJoin n tokens) h right none = apart_none (next_image image (UnsafeJoin n tokens)) (unsafe_join_idle image n tokens (early_accepted image (UnsafeJoin n tokens) none))
apart_next image (Keyspace name replication) h right none =
    let row : KeyspaceRow = keyspace_row name replication in
    apart_later (with_keyspace image row) (image.epoch + 1) (apart_unlocked image row h.sound (keyspace_unlocked image name replication none))
apart_next image (DropKeyspace name) h right none =
    let rest : List KeyspaceRow = filter (λ (row : KeyspaceRow). not (bytes_eq row.name name)) image.keyspaces in
    apart_later (record image { keyspaces = rest }) (image.epoch + 1) (apart_fewer image rest (part_filter (λ (row : KeyspaceRow). not (bytes_eq row.name name)) image.keyspaces) h.apart)
apart_next image (PrepareJoin n tokens) h right none = apart_prepared image (PrepareJoin n tokens) (join_of n tokens) h right none refl
apart_next image (PrepareMove n t) h right none = apart_prepared image (PrepareMove n t) (move_of image.tokens n t) h right none refl
apart_next image (PrepareLeave n) h right none = apart_prepared image (PrepareLeave n) (leave_of image.tokens n) h right none refl
apart_next image (PrepareReplace n gone) h right none = apart_prepared image (PrepareReplace n gone) (replace_of image.tokens n gone) h right none refl
apart_next image (Step g kind n) h right none = apart_step image g kind n h
apart_next image (Cancel n) h right none = apart_cancel image n h

pub valid_empty : IsValid empty_image
valid_empty = record { sound = sound_empty; apart = apart_none empty_image refl }

pub valid_next : (image : Image) (c : Command) → IsValid image → is_command c ≡ true → refusal_of image c ≡ None → image.epoch < most_epochs → IsValid (next_image image c)
valid_next image c h right none below_limit = record {
  sound = sound_next image c h.sound right (early_accepted image c none) below_limit;
  apart = apart_next image c h right none;
}
