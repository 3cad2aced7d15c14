-- The commands that are accepted keep the ranges of the movements that go on.
use Rattle.std.proofs.Common.{◌≡◌, ℕ, ◌+◌, Bool, true, false, not, if◌then◌else◌, ◌==◌, ℤ, List, [], filter, map, find, Option, Some, None, is_some, refl, sym, subst}
use Rattle.std.specs.List.{AllByRecursion, IsDistinct}
use Rattle.std.specs.Str.{bytes_eq}
use Rattle.cluster_terms.specs.Arc.{IsToken}
use Rattle.cluster_terms.specs.Ascending.{put}
use Rattle.transformations.proofs.commands.AcceptedLemmas.{early_accepted, same_id, unsafe_join_idle}
use Rattle.transformations.proofs.ranges.MovementsApart.{both_at, both_flips, distinct_from_pairs, found_apart}
use Rattle.transformations.proofs.movements.DoneLemmas.{done}
use Rattle.transformations.proofs.ranges.KeptRanges.{IsKept, keeps, keeps_all, ranges_alike}
use Rattle.transformations.proofs.ranges.KeptNodes.{kept_register, kept_unregister}
use Rattle.transformations.proofs.ranges.KeptSteps.{kept_done, kept_given_up, kept_phase}
use Rattle.transformations.proofs.lists.ListLemmas.{all_each, all_none, all_weaker, found_passes}
use Rattle.transformations.proofs.movements.MovementLemmas.{still_other}
use Rattle.transformations.proofs.movements.MovesOn.{MoveOn, on_none, on_others, on_phase, on_put, on_same}
use Rattle.transformations.proofs.ranges.PreparedLemmas.{kept_begun, new_movement}
use Rattle.transformations.specs.History.{begun, is_command, next_image}
use Rattle.transformations.specs.Orders.{by_name}
use Rattle.transformations.specs.Ranges.{KeepsRanges, in_both, in_ranges}
use Rattle.transformations.specs.Refusals.{keyspace_row, prepared_by, refusal_of}
use Rattle.transformations.specs.Movements.{at_phase, finished, join_of, leave_of, move_of, movement_of, others, replace_of, same_phase, sequences_after_cancel}
use Rattle.transformations.specs.Valid.{IsValid}
use Rattle.transformations.specs.declared.command.Command.{Command}
use Rattle.transformations.specs.declared.command.Command.TheVariants.{Register, Unregister, UnsafeJoin, Keyspace, DropKeyspace, PrepareJoin, PrepareMove, PrepareLeave, PrepareReplace, Step, Cancel}
use Rattle.transformations.specs.declared.image.Image.{Image}
use Rattle.transformations.specs.declared.keyspace.KeyspaceRow.{KeyspaceRow}
use Rattle.transformations.specs.declared.sequence.Goal.{Goal}
use Rattle.transformations.specs.declared.sequence.Goal.TheVariants as goal
use Rattle.transformations.specs.declared.sequence.Kind.{Kind}
use Rattle.transformations.specs.declared.sequence.Phase.TheVariants.{Started, Mid}
use Rattle.transformations.specs.declared.sequence.SeqRow.{SeqRow}

-- no two movements of a valid image have a token in the ranges of both
pub apart_at : (image : Image) → IsValid image → (x : ℤ) → IsToken x → IsDistinct (both_at image x) image.sequences
apart_at image h x token = distinct_from_pairs (both_at image x) image.sequences (h.apart x token)

-- ---- a movement less

module _ (image : Image) (s : SeqRow) (epoch : ℕ) (found : find (λ (q : SeqRow). q.node == s.node) image.sequences ≡ Some s) (h : IsValid image) where
  abbrev pub without_it : Image
  without_it = record image { epoch = epoch; sequences = others image.sequences s.node }

  apart_found : (x : ℤ) → IsToken x → AllByRecursion (λ q. (q.node == s.node) ≡ false → in_both image s q x ≡ false) image.sequences
  apart_found x token = found_apart (both_at image x) (both_flips image x) s.node image.sequences s found (apart_at image h x token)

  -- the others keep their ranges where it is done, and where it is given up
  pub others_done : (x : ℤ) → IsToken x → AllByRecursion (λ q. (q.node == s.node) ≡ false → IsKept image (done image s epoch) x q) image.sequences
  others_done x token = kept_done image s epoch found h.sound x (apart_found x token)

  pub others_given_up : (x : ℤ) → IsToken x → AllByRecursion (λ q. (q.node == s.node) ≡ false → IsKept image without_it x q) image.sequences
  others_given_up x token = kept_given_up image s epoch found h.sound x (apart_found x token)

  -- these are all that go on
  keeps_others : (after : Image) → after.sequences ≡ others image.sequences s.node
      → ((x : ℤ) → IsToken x → AllByRecursion (λ q. (q.node == s.node) ≡ false → IsKept image after x q) image.sequences) → KeepsRanges image after
  keeps_others after same kept =
      keeps image after (subst (MoveOn image.sequences) (sym same) (on_others s.node image.sequences h.sound.movements))
      (λ x token. all_weaker (λ (q : SeqRow). (q.node == s.node) ≡ false → IsKept image after x q) (λ (q : SeqRow). is_some (movement_of after q.node) ≡ true → IsKept image after x q)
      (λ q each on. each (still_other s.node q.node image.sequences (subst (λ l. is_some (find (λ (r : SeqRow). r.node == q.node) l) ≡ true) same on))) image.sequences (kept x token))

  keeps_done : KeepsRanges image (done image s epoch)
  keeps_done = keeps_others (done image s epoch) refl others_done

  keeps_given_up : KeepsRanges image without_it
  keeps_given_up = keeps_others without_it refl others_given_up

-- the movement that is found for a node is that of its own node
pub own_found : (image : Image) (n : ℕ) (s : SeqRow) → movement_of image n ≡ Some s → (s.node ≡ n) × (find (λ (q : SeqRow). q.node == s.node) image.sequences ≡ Some s)
own_found image n s found =
    let node : s.node ≡ n = same_id s.node n (found_passes (λ (q : SeqRow). q.node == n) image.sequences s found) in
    (node, subst (λ k. find (λ (q : SeqRow). q.node == k) image.sequences ≡ Some s) (sym node) found)

-- what holds of the image once a movement is done holds of the image after its last step
pub finish_by : (P : Image → Type 0) (image : Image) (n epoch : ℕ) → (movement_of image n ≡ None → P (record image { epoch = epoch }))
    → ((s : SeqRow) → find (λ (q : SeqRow). q.node == s.node) image.sequences ≡ Some s → P (done image s epoch)) → P (let after : Image = finished image (movement_of image n) in record after { epoch = epoch })
finish_by P image n epoch none some = by (movement_of image n) refl
  where
    by : (o : Option SeqRow) → movement_of image n ≡ o → P (let after : Image = finished image o in record after { epoch = epoch })
    by None found = none found
    by (Some s) found = some s (own_found image n s found).1

-- and what holds of the image once it goes back to where it had started, and of the image without it, holds of the
-- image once it is cancelled
pub cancel_by : (P : Image → Type 0) (image : Image) (n epoch : ℕ) → (movement_of image n ≡ None → P (record image { epoch = epoch }))
    → P (record image { epoch = epoch; sequences = map (at_phase Started n) image.sequences })
    → ((s : SeqRow) → find (λ (q : SeqRow). q.node == s.node) image.sequences ≡ Some s → P (record image { epoch = epoch; sequences = others image.sequences s.node }))
    → P (record image { epoch = epoch; sequences = sequences_after_cancel image.sequences n (movement_of image n) })
cancel_by P image n epoch none back some = by (movement_of image n) refl
  where
    either : (b : Bool) → P (record image { epoch = epoch; sequences = others image.sequences n }) → P (record image { epoch = epoch; sequences = if b then map (at_phase Started n) image.sequences else others image.sequences n })
    either true ended = back
    either false ended = ended

    by : (o : Option SeqRow) → movement_of image n ≡ o → P (record image { epoch = epoch; sequences = sequences_after_cancel image.sequences n o })
    by None found = none found
    by (Some s) found =
        let own = own_found image n s found in
        either (same_phase s.phase Mid) (subst (λ k. P (record image { epoch = epoch; sequences = others image.sequences k })) own.0 (some s own.1))

-- the epoch and the keyspaces are of no account
kept_under : (image : Image) (epoch : ℕ) (keyspaces : List KeyspaceRow) (x : ℤ) → AllByRecursion (IsKept image (record image { epoch = epoch; keyspaces = keyspaces }) x) image.sequences
kept_under image epoch keyspaces x =
    let after : Image = record image { epoch = epoch; keyspaces = keyspaces } in
    all_each (IsKept image after x)
    (λ s. all_each (λ (k : KeyspaceRow). in_ranges image k.replication s x ≡ in_ranges after k.replication s x) (λ k. ranges_alike image after k.replication x s s refl refl refl refl) image.keyspaces)
    image.sequences

pub kept_later : (image : Image) (epoch : ℕ) (x : ℤ) → AllByRecursion (IsKept image (record image { epoch = epoch }) x) image.sequences
kept_later image epoch x = kept_under image epoch image.keyspaces x

-- ---- commands

keeps_step : (image : Image) (g : Goal) (kind : Kind) (n : ℕ) → IsValid image → KeepsRanges image (next_image image (Step g kind n))
unfolding next_image
keeps_step image goal.Start kind n h = keeps_all image (next_image image (Step goal.Start kind n)) (on_phase Started n image.sequences h.sound.movements) (λ x token. kept_phase Started image n (image.epoch + 1) x)
keeps_step image goal.Mid kind n h = keeps_all image (next_image image (Step goal.Mid kind n)) (on_phase Mid n image.sequences h.sound.movements) (λ x token. kept_phase Mid image n (image.epoch + 1) x)
keeps_step image goal.Finish kind n h =
    finish_by (KeepsRanges image) image n (image.epoch + 1)
    (λ none. keeps_all image (record image { epoch = image.epoch + 1 }) (on_same image.sequences h.sound.movements) (λ x token. kept_later image (image.epoch + 1) x))
    (λ s found. keeps_done image s (image.epoch + 1) found h)

keeps_cancel : (image : Image) (n : ℕ) → IsValid image → KeepsRanges image (next_image image (Cancel n))
unfolding next_image
keeps_cancel image n h =
    cancel_by (KeepsRanges image) image n (image.epoch + 1)
    (λ none. keeps_all image (record image { epoch = image.epoch + 1 }) (on_same image.sequences h.sound.movements) (λ x token. kept_later image (image.epoch + 1) x))
    (keeps_all image (record image { epoch = image.epoch + 1; sequences = map (at_phase Started n) image.sequences }) (on_phase Started n image.sequences h.sound.movements) (λ x token. kept_phase Started image n (image.epoch + 1) x))
    (λ s found. keeps_given_up image s (image.epoch + 1) found h)

keeps_begun : (image : Image) (c : Command) (j : SeqRow) → IsValid image → is_command c ≡ true → refusal_of image c ≡ None → prepared_by image.tokens c ≡ Some j → KeepsRanges image (begun image j)
keeps_begun image c j h right none is =
    keeps_all image (begun image j) (on_put j image.sequences (new_movement image c j h.sound right none is) h.sound.movements) (kept_begun image c j h.sound right none is)

keeps_keyspaces : (image : Image) (keyspaces : List KeyspaceRow) → IsValid image → KeepsRanges image (record image { epoch = image.epoch + 1; keyspaces = keyspaces })
keeps_keyspaces image keyspaces h =
    keeps_all image (record image { epoch = image.epoch + 1; keyspaces = keyspaces }) (on_same image.sequences h.sound.movements) (λ x token. kept_under image (image.epoch + 1) keyspaces x)

keeps_idle : (image after : Image) → image.sequences ≡ [] → KeepsRanges image after
keeps_idle image after none = keeps_all image after (on_none image.sequences after.sequences none) (λ x token. all_none (IsKept image after x) image.sequences none)

pub ranges_kept : (image : Image) (c : Command) → IsValid image → is_command c ≡ true → refusal_of image c ≡ None → KeepsRanges image (next_image image c)
unfolding next_image
ranges_kept image (Register name dc rack) h right none =
    keeps_all image (next_image image (Register name dc rack)) (on_same image.sequences h.sound.movements) (λ x token. kept_register image name dc rack h.sound x)
ranges_kept image (Unregister n) h right none =
    keeps_all image (next_image image (Unregister n)) (on_same image.sequences h.sound.movements) (λ x token. kept_unregister image n h.sound (early_accepted image (Unregister n) none) x)
ranges_kept image (UnsafeJoin n tokens) h right none = keeps_idle image (next_image image (UnsafeJoin n tokens)) (unsafe_join_idle image n tokens (early_accepted image (UnsafeJoin n tokens) none))
ranges_kept image (Keyspace name replication) h right none = keeps_keyspaces image (put by_name (keyspace_row name replication) image.keyspaces) h
ranges_kept image (DropKeyspace name) h right none = keeps_keyspaces image (filter (λ (row : KeyspaceRow). not (bytes_eq row.name name)) image.keyspaces) h
ranges_kept image (PrepareJoin n tokens) h right none = keeps_begun image (PrepareJoin n tokens) (join_of n tokens) h right none refl
ranges_kept image (PrepareMove n t) h right none = keeps_begun image (PrepareMove n t) (move_of image.tokens n t) h right none refl
ranges_kept image (PrepareLeave n) h right none = keeps_begun image (PrepareLeave n) (leave_of image.tokens n) h right none refl
ranges_kept image (PrepareReplace n gone) h right none = keeps_begun image (PrepareReplace n gone) (replace_of image.tokens n gone) h right none refl
ranges_kept image (Step g kind n) h right none = keeps_step image g kind n h
ranges_kept image (Cancel n) h right none = keeps_cancel image n h
