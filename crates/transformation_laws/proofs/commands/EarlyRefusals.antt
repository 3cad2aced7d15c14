-- The refusals of commands as LOCKED and KEYSPACE-LOCKED: none of the refusals before them shows a lock, so they are those
-- of the ranges of a movement and of a keyspace.
use Rattle.std.proofs.Common.{◌≡◌, ℕ, Bool, true, false, true≢false, not, ◌&&◌, ◌==◌, ℤ, List, [], ◌∷◌, find, length, map, Option, Some, None, option_map, option_and_then, nat_le, nat_lt, is_some, ◌⊎◌, inl, inr, refl, sym, ap, ◌∙◌, arith}
use Rattle.std.proofs.lemmas.List.Sorted.{Contains-permutation}
use Rattle.std.proofs.lemmas.Option.{none-some}
use Rattle.std.specs.List.{AllByRecursion, Contains, list_any}
use Rattle.std.specs.Str.{bytes_eq}
use Rattle.cluster_terms.specs.Ascending.{put}
use Rattle.cluster_terms.specs.NodeRow.{row_of}
use Rattle.cluster_terms.specs.declared.node.NodeRow.{NodeRow}
use Rattle.cluster_terms.specs.declared.replication.Replication.{Replication}
use Rattle.cluster_terms.specs.declared.token.RightEnd.{RightEnd}
use Rattle.transformation_laws.proofs.ranges.LockedLemmas.{is_locked_by}
use Rattle.transformations.proofs.movements.MovementLemmas.{sequences_put}
use Rattle.transformations.proofs.movements.BeginLemmas.{begin_new, may_begin}
use Rattle.transformations.proofs.histories.SoundLemmas.{sound_prepared}
use Rattle.transformations.specs.History.{is_command}
use Rattle.transformations.specs.Orders.{by_node}
use Rattle.transformations.specs.Ranges.{first_shared}
use Rattle.transformations.specs.Refusals.{IsLockedOf, early_refusal_of, first_of, first_overlap, has_keyspace, in_sequence, is_left_short, is_registered, is_taken, is_too_few, keyspace_locked, keyspace_row, keyspaces_full, locked, locks_overlap, may_be_removed, may_join, may_move_or_leave, most_keyspaces, most_nodes, most_tokens, name_taken, no_node, no_sequence, no_tokens, nodes_full, not_idle, not_one_token, other_rack, overlap_of, prepared_by, ranges_locked, refusal_of, refused_if, same_place, token_taken, tokens_full, tokens_with, too_few_left, too_few_nodes, unless_allowed, unless_near, unless_next, with_keyspace, with_movement, wrong_state, wrong_step}
use Rattle.transformations.specs.States.{node_state, node_tokens, owns_tokens}
use Rattle.transformations.specs.Movements.{is_next_step, movement_of, takes_part}
use Rattle.transformations.specs.Valid.{IsSound}
use Rattle.transformations.specs.declared.command.Command.{Command}
use Rattle.transformations.specs.declared.command.Command.TheVariants.{Register, Unregister, UnsafeJoin, Keyspace, DropKeyspace, PrepareJoin, PrepareMove, PrepareLeave, PrepareReplace, Step, Cancel}
use Rattle.transformations.specs.declared.image.Image.{Image}
use Rattle.transformations.specs.declared.keyspace.KeyspaceRow.{KeyspaceRow}
use Rattle.transformations.specs.declared.refusal.Refusal.{Refusal}
use Rattle.transformations.specs.declared.refusal.Refusal.TheVariants.{NameTaken, NodesFull, NoNode, WrongState, InSequence, NoSequence, WrongStep, TokenTaken, NoTokens, TokensFull, NotOneToken, OtherRack, NoKeyspace, KeyspacesFull, KeyspaceLocked, TooFewNodes, Locked}
use Rattle.transformations.specs.declared.sequence.Goal.{Goal}
use Rattle.transformations.specs.declared.sequence.Kind.{Kind}
use Rattle.transformations.specs.declared.sequence.SeqRow.{SeqRow}
use Rattle.transformations.specs.declared.state.NodeState.{NodeState}

-- whether a refusal, if there is one, shows a lock
abbrev shows_lock : Option Refusal → Bool
shows_lock (Some (Locked n right)) = true
shows_lock (Some (KeyspaceLocked n o right)) = true
shows_lock _ = false

-- ---- what shows none

plain_if : (test : Bool) (r : Refusal) → shows_lock (Some r) ≡ false → shows_lock (refused_if test r) ≡ false
plain_if true r plain = plain
plain_if false r plain = refl

plain_map : {X : Type 0} (f : X → Refusal) → ((x : X) → shows_lock (Some (f x)) ≡ false) → (o : Option X) → shows_lock (option_map f o) ≡ false
plain_map f plain None = refl
plain_map f plain (Some x) = plain x

plain_then : {X : Type 0} (f : X → Option Refusal) → ((x : X) → shows_lock (f x) ≡ false) → (o : Option X) → shows_lock (option_and_then f o) ≡ false
plain_then f plain None = refl
plain_then f plain (Some x) = plain x

plain_first : (refusals : List (Option Refusal)) → AllByRecursion (λ r. shows_lock r ≡ false) refusals → shows_lock (first_of refusals) ≡ false
plain_first [] all = refl
plain_first (None ∷ refusals) all = plain_first refusals all.1
plain_first (Some r ∷ refusals) all = all.0

-- ---- the refusals before that of locked ranges

module _ (image : Image) where
  node_plain : (n : ℕ) → shows_lock (no_node image n) ≡ false
  node_plain n = plain_if (not (is_registered image n)) NoNode refl

  sequence_plain : (n : ℕ) → shows_lock (in_sequence image n) ≡ false
  sequence_plain n = plain_map (λ s. InSequence s.node) (λ (s : SeqRow). refl) (find (takes_part n) image.sequences)

  state_plain : (allowed : NodeState → Bool) (n : ℕ) → shows_lock (wrong_state allowed image n) ≡ false
  state_plain allowed n = plain_then (unless_allowed allowed) (λ s. plain_if (not (allowed s)) (WrongState s) refl) (node_state image n)

  idle_plain : (sequences : List SeqRow) → shows_lock (not_idle sequences) ≡ false
  idle_plain [] = refl
  idle_plain (s ∷ later) = refl

  taken_plain : (tokens : List ℤ) → shows_lock (token_taken image tokens) ≡ false
  taken_plain tokens = plain_map TokenTaken (λ t. refl) (find (is_taken image) tokens)

  full_plain : (tokens : List ℤ) → shows_lock (tokens_full image tokens) ≡ false
  full_plain tokens = plain_if (nat_lt most_tokens (tokens_with image tokens)) TokensFull refl

  one_plain : (n : ℕ) → shows_lock (not_one_token image n) ≡ false
  one_plain n = plain_if (not (length (node_tokens image n) == 1)) (NotOneToken (length (node_tokens image n))) refl

  few_plain : (n : ℕ) → shows_lock (too_few_nodes image n) ≡ false
  few_plain n = plain_map (λ k. TooFewNodes k.name) (λ (k : KeyspaceRow). refl) (find (λ (k : KeyspaceRow). is_too_few image n k.replication) image.keyspaces)

  rack_plain : (n gone : ℕ) → shows_lock (other_rack image n gone) ≡ false
  rack_plain n gone =
      plain_then (λ left. option_and_then (unless_near left) (row_of image.nodes n))
      (λ (left : NodeRow). plain_then (unless_near left) (λ row. plain_if (not (same_place row left)) (OtherRack left.dc left.rack) refl) (row_of image.nodes n)) (row_of image.nodes gone)

  step_plain : (goal : Goal) (kind : Kind) (n : ℕ) → shows_lock (wrong_step goal kind image n) ≡ false
  step_plain goal kind n = plain_then (unless_next goal kind) (λ s. plain_if (not (is_next_step goal kind s)) (WrongStep s.kind s.phase) refl) (movement_of image n)

  no_sequence_plain : (n : ℕ) → shows_lock (no_sequence image n) ≡ false
  no_sequence_plain n = plain_if (not (is_some (movement_of image n))) NoSequence refl

  early_plain : (c : Command) → shows_lock (early_refusal_of image c) ≡ false
  unfolding early_refusal_of
  early_plain (Register name dc rack) =
      plain_first (name_taken image name ∷ nodes_full image ∷ [])
      (plain_map (λ row. NameTaken row.id) (λ (row : NodeRow). refl) (find (λ row. bytes_eq row.name name) image.nodes), (plain_if (nat_le most_nodes (length image.nodes)) NodesFull refl, tt))
  early_plain (Unregister n) =
      plain_first (no_node image n ∷ in_sequence image n ∷ wrong_state may_be_removed image n ∷ []) (node_plain n, (sequence_plain n, (state_plain may_be_removed n, tt)))
  early_plain (UnsafeJoin n tokens) =
      plain_first (no_node image n ∷ in_sequence image n ∷ wrong_state may_join image n ∷ not_idle image.sequences ∷ token_taken image tokens ∷ tokens_full image tokens ∷ [])
      (node_plain n, (sequence_plain n, (state_plain may_join n, (idle_plain image.sequences, (taken_plain tokens, (full_plain tokens, tt))))))
  early_plain (Keyspace name replication) =
      plain_first (keyspaces_full image name ∷ too_few_left image (keyspace_row name replication) ∷ [])
      (plain_if (nat_le most_keyspaces (length image.keyspaces) && not (has_keyspace image name)) KeyspacesFull refl, (plain_if (list_any (is_left_short image replication) image.sequences) (TooFewNodes name) refl, tt))
  early_plain (DropKeyspace name) = plain_if (not (has_keyspace image name)) NoKeyspace refl
  early_plain (PrepareJoin n tokens) =
      plain_first (no_node image n ∷ in_sequence image n ∷ wrong_state may_join image n ∷ token_taken image tokens ∷ tokens_full image tokens ∷ [])
      (node_plain n, (sequence_plain n, (state_plain may_join n, (taken_plain tokens, (full_plain tokens, tt)))))
  early_plain (PrepareMove n t) =
      plain_first (no_node image n ∷ in_sequence image n ∷ wrong_state may_move_or_leave image n ∷ not_one_token image n ∷ token_taken image (t ∷ []) ∷ tokens_full image (t ∷ []) ∷ [])
      (node_plain n, (sequence_plain n, (state_plain may_move_or_leave n, (one_plain n, (taken_plain (t ∷ []), (full_plain (t ∷ []), tt))))))
  early_plain (PrepareLeave n) =
      plain_first (no_node image n ∷ in_sequence image n ∷ wrong_state may_move_or_leave image n ∷ too_few_nodes image n ∷ [])
      (node_plain n, (sequence_plain n, (state_plain may_move_or_leave n, (few_plain n, tt))))
  early_plain (PrepareReplace n gone) =
      plain_first (no_node image n ∷ no_node image gone ∷ in_sequence image n ∷ in_sequence image gone ∷ wrong_state may_join image n ∷ no_tokens image gone ∷ other_rack image n gone ∷ [])
      (node_plain n, (node_plain gone, (sequence_plain n, (sequence_plain gone, (state_plain may_join n, (plain_if (not (owns_tokens image gone)) NoTokens refl, (rack_plain n gone, tt)))))))
  early_plain (Cancel n) = plain_first (no_node image n ∷ no_sequence image n ∷ []) (node_plain n, (no_sequence_plain n, tt))
  early_plain (Step goal kind n) =
      plain_first (no_node image n ∷ no_sequence image n ∷ wrong_step goal kind image n ∷ []) (node_plain n, (no_sequence_plain n, (step_plain goal kind n, tt)))

-- ---- the refusals that show a lock

-- the first refusal of two
either : (a b : Option Refusal) (r : Refusal) → first_of (a ∷ b ∷ []) ≡ Some r → (a ≡ Some r) ⊎ (b ≡ Some r)
either (Some q) b r is = inl is
either None (Some q) r is = inr is
either None None r is = absurd (none-some r is)

-- that of a keyspace shows two nodes
two_nodes : (image : Image) (n : ℕ) (right : RightEnd) (s : SeqRow) (later : List SeqRow) → first_of (map (overlap_of image s) later) ≡ Some (Locked n right) → ⊥
two_nodes image n right s [] is = none-some (Locked n right) is
two_nodes image n right s (q ∷ later) is = by (first_shared image s q) is (two_nodes image n right s later)
  where
    by : (o : Option RightEnd) → first_of (option_map (KeyspaceLocked s.node q.node) o ∷ map (overlap_of image s) later) ≡ Some (Locked n right)
        → (first_of (map (overlap_of image s) later) ≡ Some (Locked n right) → ⊥) → ⊥
    by None is rest = rest is
    by (Some end) is rest = cc

pair_shown : (image : Image) (n : ℕ) (right : RightEnd) (sequences : List SeqRow) → first_overlap image sequences ≡ Some (Locked n right) → ⊥
pair_shown image n right [] is = none-some (Locked n right) is
pair_shown image n right (s ∷ later) is = by (either (first_of (map (overlap_of image s) later)) (first_overlap image later) (Locked n right) is) (pair_shown image n right later)
  where
    by : (first_of (map (overlap_of image s) later) ≡ Some (Locked n right)) ⊎ (first_overlap image later ≡ Some (Locked n right)) → (first_overlap image later ≡ Some (Locked n right) → ⊥) → ⊥
    by (inl first) rest = two_nodes image n right s later first
    by (inr more) rest = rest more

keyspace_shown : (image : Image) (c : Command) (n : ℕ) (right : RightEnd) → locks_overlap image c ≡ Some (Locked n right) → ⊥
unfolding keyspace_locked
keyspace_shown image (Keyspace name replication) n right is = pair_shown (with_keyspace image (keyspace_row name replication)) n right image.sequences is
keyspace_shown image _ n right is = none-some (Locked n right) is

-- a refusal that shows a lock isn't an early one: it is that of the ranges of a movement, or that of a keyspace
record IsLate (image : Image) (c : Command) (r : Refusal) : Type 0 where
  early : early_refusal_of image c ≡ None
  shown : (ranges_locked image c ≡ Some r) ⊎ (locks_overlap image c ≡ Some r)

late : (image : Image) (c : Command) (r : Refusal) → shows_lock (Some r) ≡ true → refusal_of image c ≡ Some r → IsLate image c r
unfolding refusal_of
late image c r lock is = by (early_refusal_of image c) refl (early_plain image c) is
  where
    by : (o : Option Refusal) → early_refusal_of image c ≡ o → shows_lock o ≡ false → first_of (o ∷ ranges_locked image c ∷ locks_overlap image c ∷ []) ≡ Some r → IsLate image c r
    by None early plain is = record { early = early; shown = either (ranges_locked image c) (locks_overlap image c) r is }
    by (Some q) early plain is = absurd (true≢false (sym lock ∙ sym (ap shows_lock is) ∙ plain))

-- ---- a command that is refused as LOCKED

module _ (image : Image) (c : Command) (n : ℕ) (right : RightEnd) (h : IsSound image) (formed : is_command c ≡ true) where
  -- the ranges of the movement that it prepares
  ranges_shown : early_refusal_of image c ≡ None → ranges_locked image c ≡ Some (Locked n right) → IsLockedOf image c n right
  ranges_shown early is = by (prepared_by image.tokens c) refl is
    where
      by : (o : Option SeqRow) → prepared_by image.tokens c ≡ o → option_and_then (λ s. locked (with_movement image s) s) o ≡ Some (Locked n right) → IsLockedOf image c n right
      by None prepares is = absurd (none-some (Locked n right) is)
      by (Some s) prepares is =
          let there : Contains (put by_node s image.sequences) s =
          Contains-permutation (s ∷ image.sequences) (put by_node s image.sequences) s
          (sequences_put s image.sequences (begin_new image s (may_begin image c s h formed early prepares))) (0, omega arith, refl) in
          record { movement = s; prepared = prepares; shown = is_locked_by (with_movement image s) s n right (sound_prepared image c s h formed early prepares) there is }

  pub refused_as_locked : refusal_of image c ≡ Some (Locked n right) → IsLockedOf image c n right
  refused_as_locked is = (let l = late image c (Locked n right) refl is in by l.early l.shown)
    where
      by : early_refusal_of image c ≡ None → (ranges_locked image c ≡ Some (Locked n right)) ⊎ (locks_overlap image c ≡ Some (Locked n right)) → IsLockedOf image c n right
      by early (inl ranges) = ranges_shown early ranges
      by early (inr keyspace) = absurd (keyspace_shown image c n right keyspace)

-- ---- a command that is refused as KEYSPACE-LOCKED

pub refused_as_keyspace_locked : (image : Image) (name : List ℕ) (replication : Replication) (n o : ℕ) (right : RightEnd) → refusal_of image (Keyspace name replication) ≡ Some (KeyspaceLocked n o right)
    → keyspace_locked image (keyspace_row name replication) ≡ Some (KeyspaceLocked n o right)
refused_as_keyspace_locked image name replication n o right is = by (late image (Keyspace name replication) (KeyspaceLocked n o right) refl is).shown
  where
    by : (ranges_locked image (Keyspace name replication) ≡ Some (KeyspaceLocked n o right)) ⊎ (locks_overlap image (Keyspace name replication) ≡ Some (KeyspaceLocked n o right))
        → keyspace_locked image (keyspace_row name replication) ≡ Some (KeyspaceLocked n o right)
    by (inl ranges) = absurd (none-some (KeyspaceLocked n o right) ranges)
    by (inr keyspace) = keyspace
