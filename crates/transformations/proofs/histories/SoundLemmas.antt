-- The commands that are accepted keep an image sound.
use Rattle.std.proofs.Common.{◌≡◌, ℕ, ◌+◌, ◌<◌, ◌≤◌, Bool, true, false, true≢false, if◌then◌else◌, not, ◌||◌, ◌==◌, ℤ, List, [], ◌∷◌, ◌++◌, map, filter, find, length, Option, Some, None, ◌⊎◌, inl, inr, refl, sym, ap, ◌∙◌, subst, arith}
use Rattle.std.proofs.lemmas.Cmp.{nat_list_cmp_total, on_total}
use Rattle.std.proofs.lemmas.List.Kept.{IsStrictlySortedBy-filter}
use Rattle.std.proofs.lemmas.List.Sorted.{IsPermutation-append_right, IsPermutation-trans}
use Rattle.std.proofs.lemmas.Map.Made.{distinct_count-le}
use Rattle.std.proofs.lemmas.Map.Text.{is_eq-slice_cmp}
use Rattle.std.specs.Cmp.{IsTotalOrder}
use Rattle.std.specs.Cmp.Lexicographic.{nat_list_eq_equiv}
use Rattle.std.specs.List.{AllByRecursion, IsDistinct, list_any}
use Rattle.std.specs.List.Sorted.{IsPermutation, IsStrictlySortedBy}
use Rattle.std.specs.Ordering.{eq_by_cmp}
use Rattle.std.specs.Set.{distinct_count, is_member}
use Rattle.std.specs.Str.{bytes_eq}
use Rattle.cluster_terms.proofs.lists.AscendingLemmas.{All-put, ascending_same, length-ascending, put_sorted}
use Rattle.cluster_terms.specs.Ascending.{put, put_all}
use Rattle.cluster_terms.specs.NodeRow.{row_of}
use Rattle.cluster_terms.specs.declared.node.NodeRow.{NodeRow}
use Rattle.cluster_terms.specs.declared.replication.Replication.{Replication}
use Rattle.cluster_terms.specs.declared.token.Pair.{Pair}
use Rattle.transformations.proofs.commands.AcceptedLemmas.{keyspace_accepted, same_id, register_accepted, unregister_accepted, unsafe_join_accepted, unsafe_join_idle}
use Rattle.transformations.proofs.movements.BeginLemmas.{MayBegin, begin_new, few_new, may_begin, ring_and_brought, ring_and_brought_few}
use Rattle.transformations.proofs.movements.DoneLemmas.{done, few_done, others_go_on, owned_after}
use Rattle.transformations.proofs.movements.ExchangeLemmas.{IsExchange, exchange}
use Rattle.transformations.proofs.movements.FitsLemmas.{GoesOn, movement_kept, movements_phase}
use Rattle.transformations.proofs.lists.ListLemmas.{IsPart, all_both, all_false, all_found, all_none, all_weaker, exchanged, found_passes, part_all, part_all_of, part_append, part_filter, part_flat, part_length, part_sorted}
use Rattle.transformations.proofs.movements.MovementLemmas.{by_node_total, flat_put, phase_brought, phase_sorted, tokens_are}
use Rattle.transformations.proofs.nodes.NodeLemmas.{nodes_left, nodes_push, nodes_without, row_push, row_without, standing_push, standing_without}
use Rattle.transformations.proofs.movements.OnceLemmas.{once_others, once_phase, once_put}
use Rattle.transformations.proofs.pairs.RingPairs.{AreFew, few_moved, few_part, length-pairs, owned_with, pairs_own, put_into_ring}
use Rattle.transformations.specs.History.{begun, empty_image, is_command, most_epochs, next_image}
use Rattle.transformations.specs.Orders.{by_name, by_node, by_token}
use Rattle.transformations.specs.Refusals.{keyspace_row, most_keyspaces, early_refusal_of, prepared_by, with_movement}
use Rattle.transformations.specs.Movements.{at_phase, finished, join_of, leave_of, leaver, move_of, movement_of, others, owned, pairs_of, replace_of, same_phase, sequences_after_cancel, takes_part}
use Rattle.transformations.specs.Valid.{IsMovement, IsSound, brought, brought_by, is_standing}
use Rattle.transformations.specs.declared.command.Command.{Command}
use Rattle.transformations.specs.declared.command.Command.TheVariants.{Register, Unregister, UnsafeJoin, Keyspace, DropKeyspace, PrepareJoin, PrepareMove, PrepareLeave, PrepareReplace, Step, Cancel}
use Rattle.transformations.specs.declared.image.Image.{Image}
use Rattle.transformations.specs.declared.keyspace.KeyspaceRow.{KeyspaceRow}
use Rattle.transformations.specs.declared.sequence.Goal.{Goal}
use Rattle.transformations.specs.declared.sequence.Goal.TheVariants as goal
use Rattle.transformations.specs.declared.sequence.Kind.{Kind}
use Rattle.transformations.specs.declared.sequence.Phase.{Phase}
use Rattle.transformations.specs.declared.sequence.Phase.TheVariants.{Started, Mid}
use Rattle.transformations.specs.declared.sequence.SeqRow.{SeqRow}

-- pairs and nodes that are as before
as_before : {image after : Image} {s : SeqRow} → image.tokens ≡ after.tokens → image.nodes ≡ after.nodes → GoesOn image after s
as_before {image} {after} {s} tokens nodes = record { pairs = λ n takes. ap (λ ring. owned ring n) tokens; rows = λ n takes up. ap (λ rows. row_of rows n) nodes }

pub sound_empty : IsSound empty_image
unfolding IsDistinct IsStrictlySortedBy
sound_empty = record {
  epochs = omega arith;
  first_id = omega arith;
  next_id = omega arith;
  nodes = record { few = omega arith; ascending = λ k h. absurd (omega arith); within = tt; distinct = tt };
  ring = record { ascending = tt; owners = tt; few = λ n. omega arith };
  few_keyspaces = omega arith;
  keyspaces = tt;
  movements = tt;
  fitting = tt;
  once = λ i j d before within. absurd (omega arith);
  fresh = tt;
  few_tokens = omega arith;
}

-- ---- nodes

sound_register : (image : Image) (name dc rack : List ℕ) → IsSound image → early_refusal_of image (Register name dc rack) ≡ None → image.epoch < most_epochs → IsSound (next_image image (Register name dc rack))
unfolding next_image
sound_register image name dc rack h none below_limit =
    let row : NodeRow = record { id = image.next; name = name; dc = dc; rack = rack; left = false } in
    let after : Image = record image { epoch = image.epoch + 1; next = image.next + 1; nodes = image.nodes ++ row ∷ [] } in
    let a = register_accepted image name dc rack none in
    record {
      epochs = omega (arith, below_limit);
      first_id = omega (arith, h.first_id);
      next_id = omega (arith, h.next_id);
      nodes = nodes_push image.nodes image.next row refl h.first_id a.1 a.0 h.nodes;
      ring = record {
        ascending = h.ring.ascending;
        owners = all_weaker (λ (p : Pair). is_standing image.nodes p.node ≡ true) (λ (p : Pair). is_standing after.nodes p.node ≡ true)
            (λ p. standing_push image.nodes (row ∷ []) p.node) image.tokens h.ring.owners;
        few = h.ring.few;
      };
      few_keyspaces = h.few_keyspaces;
      keyspaces = h.keyspaces;
      movements = h.movements;
      fitting = all_weaker (IsMovement image) (IsMovement after)
          (λ s. movement_kept image after s (record { pairs = λ n takes. refl; rows = λ n takes up. row_push image.nodes (row ∷ []) n up }) h.ring) image.sequences h.fitting;
      once = h.once;
      fresh = h.fresh;
      few_tokens = h.few_tokens;
    }

sound_unregister : (image : Image) (n : ℕ) → IsSound image → early_refusal_of image (Unregister n) ≡ None → image.epoch < most_epochs → IsSound (next_image image (Unregister n))
unfolding next_image
sound_unregister image n h none below_limit =
    let after : Image = record image { epoch = image.epoch + 1; nodes = filter (λ (row : NodeRow). not (row.id == n)) image.nodes } in
    let a = unregister_accepted image n h.ring none in
    record {
      epochs = omega (arith, below_limit);
      first_id = h.first_id;
      next_id = omega (arith, h.next_id);
      nodes = nodes_without image.nodes image.next n h.nodes;
      ring = record {
        ascending = h.ring.ascending;
        owners = all_both (λ (p : Pair). is_standing image.nodes p.node ≡ true) (λ (p : Pair). (p.node == n) ≡ false) (λ (p : Pair). is_standing after.nodes p.node ≡ true)
            (λ p up other. standing_without image.nodes n p.node other up) image.tokens h.ring.owners (all_false (λ (p : Pair). p.node == n) image.tokens a.1);
        few = h.ring.few;
      };
      few_keyspaces = h.few_keyspaces;
      keyspaces = h.keyspaces;
      movements = h.movements;
      fitting = all_both (IsMovement image) (λ (s : SeqRow). takes_part n s ≡ false) (IsMovement after)
          (λ s m free. movement_kept image after s (record { pairs = λ k takes. refl; rows = λ k takes up. sym (row_without image.nodes n k (other s free k takes)) }) h.ring m) image.sequences h.fitting a.0;
      once = h.once;
      fresh = h.fresh;
      few_tokens = h.few_tokens;
    }
  where
    other : (s : SeqRow) → takes_part n s ≡ false → (k : ℕ) → takes_part k s ≡ true → (k == n) ≡ false
    other s free k takes = by (k == n) refl
      where
        by : (b : Bool) → (k == n) ≡ b → (k == n) ≡ false
        by false e = e
        by true e = absurd (true≢false (sym takes ∙ ap (λ m. takes_part m s) (same_id k n e) ∙ free))

-- ---- keyspaces

by_name_total : IsTotalOrder by_name
by_name_total = on_total (λ (k : KeyspaceRow). k.name) nat_list_cmp_total

-- as many keyspaces as before where one of the name is there, and else at most one more
length-put_keyspace : (row : KeyspaceRow) (keyspaces : List KeyspaceRow) → IsStrictlySortedBy by_name keyspaces → length (put by_name row keyspaces) ≡ distinct_count (eq_by_cmp by_name) (row ∷ keyspaces)
length-put_keyspace row keyspaces up = ap (λ l. length (put by_name row l)) (sym (ascending_same by_name by_name_total keyspaces up)) ∙ length-ascending by_name by_name_total (row ∷ keyspaces)

has-member : (row : KeyspaceRow) (keyspaces : List KeyspaceRow) → list_any (λ (k : KeyspaceRow). bytes_eq k.name row.name) keyspaces ≡ is_member (eq_by_cmp by_name) keyspaces row
has-member row [] = refl
has-member row (k ∷ keyspaces) =
    let here : bytes_eq k.name row.name ≡ eq_by_cmp by_name row k = nat_list_eq_equiv.symm k.name row.name ∙ sym (is_eq-slice_cmp row.name k.name) in
    ap (λ b. b || list_any (λ (l : KeyspaceRow). bytes_eq l.name row.name) keyspaces) here ∙ ap (λ b. eq_by_cmp by_name row k || b) (has-member row keyspaces)

few_put : (row : KeyspaceRow) (keyspaces : List KeyspaceRow) → IsStrictlySortedBy by_name keyspaces → length keyspaces ≤ most_keyspaces
    → (length keyspaces < most_keyspaces) ⊎ (list_any (λ (k : KeyspaceRow). bytes_eq k.name row.name) keyspaces ≡ true) → length (put by_name row keyspaces) ≤ most_keyspaces
few_put row keyspaces up few (inl below_limit) = omega (arith, length-put_keyspace row keyspaces up, distinct_count-le (eq_by_cmp by_name) (row ∷ keyspaces))
few_put row keyspaces up few (inr has) =
    let there : is_member (eq_by_cmp by_name) keyspaces row ≡ true = sym (has-member row keyspaces) ∙ has in
    let count : distinct_count (eq_by_cmp by_name) (row ∷ keyspaces) ≡ distinct_count (eq_by_cmp by_name) keyspaces = rw there refl in
    omega (arith, count, length-put_keyspace row keyspaces up, distinct_count-le (eq_by_cmp by_name) keyspaces)

-- the image with other keyspaces, or none other
sound_keyspaces : (image : Image) (keyspaces : List KeyspaceRow) → length keyspaces ≤ most_keyspaces → IsStrictlySortedBy by_name keyspaces → IsSound image → image.epoch < most_epochs
    → IsSound (record image { epoch = image.epoch + 1; keyspaces = keyspaces })
sound_keyspaces image keyspaces few up h below_limit =
    let after : Image = record image { epoch = image.epoch + 1; keyspaces = keyspaces } in
    record {
      epochs = omega (arith, below_limit);
      first_id = h.first_id;
      next_id = omega (arith, h.next_id);
      nodes = h.nodes;
      ring = record { ascending = h.ring.ascending; owners = h.ring.owners; few = h.ring.few };
      few_keyspaces = few;
      keyspaces = up;
      movements = h.movements;
      fitting = all_weaker (IsMovement image) (IsMovement after) (λ s. movement_kept image after s (as_before refl refl) h.ring) image.sequences h.fitting;
      once = h.once;
      fresh = h.fresh;
      few_tokens = h.few_tokens;
    }

sound_keyspace : (image : Image) (name : List ℕ) (replication : Replication) → IsSound image → early_refusal_of image (Keyspace name replication) ≡ None → image.epoch < most_epochs → IsSound (next_image image (Keyspace name replication))
unfolding next_image
sound_keyspace image name replication h none below_limit =
    let row : KeyspaceRow = keyspace_row name replication in
    sound_keyspaces image (put by_name row image.keyspaces) (few_put row image.keyspaces h.keyspaces h.few_keyspaces (keyspace_accepted image name replication none))
    (put_sorted by_name by_name_total row image.keyspaces h.keyspaces) h below_limit

sound_drop_keyspace : (image : Image) (name : List ℕ) → IsSound image → image.epoch < most_epochs → IsSound (next_image image (DropKeyspace name))
unfolding next_image
sound_drop_keyspace image name h below_limit =
    let other : KeyspaceRow → Bool = λ k. not (bytes_eq k.name name) in
    let fewer = part_length (part_filter other image.keyspaces) in
    sound_keyspaces image (filter other image.keyspaces) (omega (arith, fewer, h.few_keyspaces)) (IsStrictlySortedBy-filter by_name other image.keyspaces h.keyspaces) h below_limit

-- ---- tokens at once

sound_unsafe_join : (image : Image) (n : ℕ) (tokens : List ℤ) → IsSound image → is_command (UnsafeJoin n tokens) ≡ true → early_refusal_of image (UnsafeJoin n tokens) ≡ None → image.epoch < most_epochs → IsSound (next_image image (UnsafeJoin n tokens))
unfolding next_image
sound_unsafe_join image n tokens h right none below_limit =
    let pairs : List Pair = pairs_of n tokens in
    let after : Image = record image { epoch = image.epoch + 1; tokens = put_all by_token pairs image.tokens } in
    let a = unsafe_join_accepted image n tokens none in
    let t = tokens_are tokens right in
    let up : AllByRecursion (λ (p : Pair). is_standing image.nodes p.node ≡ true) pairs =
    all_weaker (λ (p : Pair). p.node ≡ n) (λ (p : Pair). is_standing image.nodes p.node ≡ true) (λ p is. ap (is_standing image.nodes) is ∙ a.0.stands) pairs (pairs_own n tokens) in
    let ring = owned_with image n pairs a.0.bare up (pairs_own n tokens) (omega (arith, t.few, length-pairs n tokens)) h.ring in
    let new = few_new image n tokens h t a.1 in
    let few = few_moved (pairs ++ ring_and_brought image) (ring_and_brought after) (put_into_ring pairs image.tokens (brought image.sequences) new) new in
    record {
      epochs = omega (arith, below_limit);
      first_id = h.first_id;
      next_id = omega (arith, h.next_id);
      nodes = h.nodes;
      ring = record { ascending = ring.ascending; owners = ring.owners; few = ring.few };
      few_keyspaces = h.few_keyspaces;
      keyspaces = h.keyspaces;
      movements = h.movements;
      fitting = all_none (IsMovement after) image.sequences (unsafe_join_idle image n tokens none);
      once = h.once;
      fresh = few.fresh;
      few_tokens = few.few;
    }

-- ---- movements

-- a movement that may begin, among the others
pub sound_with : (image : Image) (j : SeqRow) → IsSound image → MayBegin image j → IsSound (with_movement image j)
sound_with image j h may =
    let after : Image = with_movement image j in
    let new = begin_new image j may in
    let all : IsPermutation (brought_by j.kind j.in_pairs ++ ring_and_brought image) (ring_and_brought after) =
    IsPermutation-trans (brought_by j.kind j.in_pairs ++ ring_and_brought image) (image.tokens ++ (brought_by j.kind j.in_pairs ++ brought image.sequences)) (ring_and_brought after)
    (exchanged (brought_by j.kind j.in_pairs) image.tokens (brought image.sequences))
    (IsPermutation-append_right image.tokens (brought_by j.kind j.in_pairs ++ brought image.sequences) (brought after.sequences) (flat_put (λ (q : SeqRow). brought_by q.kind q.in_pairs) j image.sequences new)) in
    let few = few_moved (brought_by j.kind j.in_pairs ++ ring_and_brought image) (ring_and_brought after) all may.few in
    record {
      epochs = h.epochs;
      first_id = h.first_id;
      next_id = h.next_id;
      nodes = h.nodes;
      ring = record { ascending = h.ring.ascending; owners = h.ring.owners; few = h.ring.few };
      few_keyspaces = h.few_keyspaces;
      keyspaces = h.keyspaces;
      movements = put_sorted by_node by_node_total j image.sequences h.movements;
      fitting = All-put by_node (IsMovement after) j image.sequences (movement_kept image after j (as_before refl refl) h.ring may.fits)
          (all_weaker (IsMovement image) (IsMovement after) (λ s. movement_kept image after s (as_before refl refl) h.ring) image.sequences h.fitting);
      once = once_put image j new may.free h.once;
      fresh = few.fresh;
      few_tokens = few.few;
    }

-- the same of a command that prepares one
pub sound_prepared : (image : Image) (c : Command) (j : SeqRow) → IsSound image → is_command c ≡ true → early_refusal_of image c ≡ None → prepared_by image.tokens c ≡ Some j → IsSound (with_movement image j)
sound_prepared image c j h right none is = sound_with image j h (may_begin image c j h right none is)

pub sound_with_join : (image : Image) (n : ℕ) (tokens : List ℤ) → IsSound image → is_command (PrepareJoin n tokens) ≡ true → early_refusal_of image (PrepareJoin n tokens) ≡ None → IsSound (with_movement image (join_of n tokens))
sound_with_join image n tokens h right none = sound_prepared image (PrepareJoin n tokens) (join_of n tokens) h right none refl

sound_begun : (image : Image) (c : Command) (j : SeqRow) → IsSound image → is_command c ≡ true → early_refusal_of image c ≡ None → prepared_by image.tokens c ≡ Some j → image.epoch < most_epochs → IsSound (begun image j)
sound_begun image c j h right none is below_limit =
    let wide = sound_prepared image c j h right none is in
    sound_keyspaces (with_movement image j) image.keyspaces wide.few_keyspaces wide.keyspaces wide below_limit

-- a movement in another phase
sound_phase : (phase : Phase) (image : Image) (n : ℕ) → IsSound image → image.epoch < most_epochs → IsSound (record image { epoch = image.epoch + 1; sequences = map (at_phase phase n) image.sequences })
sound_phase phase image n h below_limit =
    let sequences : List SeqRow = map (at_phase phase n) image.sequences in
    let same : image.tokens ++ brought sequences ≡ ring_and_brought image = ap (λ l. image.tokens ++ l) (phase_brought phase n image.sequences) in
    record {
      epochs = omega (arith, below_limit);
      first_id = h.first_id;
      next_id = omega (arith, h.next_id);
      nodes = h.nodes;
      ring = record { ascending = h.ring.ascending; owners = h.ring.owners; few = h.ring.few };
      few_keyspaces = h.few_keyspaces;
      keyspaces = h.keyspaces;
      movements = phase_sorted phase n image.sequences h.movements;
      fitting = movements_phase image (image.epoch + 1) sequences phase n image.sequences h.ring h.fitting;
      once = once_phase phase n image.sequences h.once;
      fresh = rw same h.fresh;
      few_tokens = rw same h.few_tokens;
    }

-- a movement that is done, while the others go on
sound_done : (image : Image) (s : SeqRow) → find (λ (q : SeqRow). q.node == s.node) image.sequences ≡ Some s → IsSound image → image.epoch < most_epochs → IsSound (done image s (image.epoch + 1))
sound_done image s found h below_limit =
    let after : Image = done image s (image.epoch + 1) in
    let part : IsPart (others image.sequences s.node) image.sequences = part_filter (λ (q : SeqRow). not (q.node == s.node)) image.sequences in
    let m : IsMovement image s = all_found (IsMovement image) (λ (q : SeqRow). q.node == s.node) image.sequences s found h.fitting in
    let x : IsExchange image s = exchange image s h.ring m in
    let ring = owned_after image s h m x found in
    let few = few_done image s h m x found in
    record {
      epochs = omega (arith, below_limit);
      first_id = h.first_id;
      next_id = omega (arith, h.next_id);
      nodes = nodes_left image.nodes image.next (leaver s) h.nodes;
      ring = record { ascending = ring.ascending; owners = ring.owners; few = ring.few };
      few_keyspaces = h.few_keyspaces;
      keyspaces = h.keyspaces;
      movements = part_sorted by_node part h.movements;
      fitting = all_both (IsMovement image) (GoesOn image after) (IsMovement after) (λ q mq same. movement_kept image after q same h.ring mq) (others image.sequences s.node)
          (part_all_of (IsMovement image) part h.fitting) (others_go_on image s h m x found (image.epoch + 1));
      once = once_others image.sequences s.node h.once;
      fresh = few.fresh;
      few_tokens = few.few;
    }

sound_step : (image : Image) (g : Goal) (kind : Kind) (n : ℕ) → IsSound image → image.epoch < most_epochs → IsSound (next_image image (Step g kind n))
unfolding next_image
sound_step image goal.Start kind n h below_limit = sound_phase Started image n h below_limit
sound_step image goal.Mid kind n h below_limit = sound_phase Mid image n h below_limit
sound_step image goal.Finish kind n h below_limit = by (movement_of image n) refl
  where
    by : (o : Option SeqRow) → movement_of image n ≡ o → IsSound (let after : Image = finished image o in record after { epoch = image.epoch + 1 })
    by None found = sound_keyspaces image image.keyspaces h.few_keyspaces h.keyspaces h below_limit
    by (Some s) found =
        let node : s.node ≡ n = same_id s.node n (found_passes (λ (q : SeqRow). q.node == n) image.sequences s found) in
        sound_done image s (subst (λ k. find (λ (q : SeqRow). q.node == k) image.sequences ≡ Some s) (sym node) found) h below_limit

-- a movement that is given up
sound_given_up : (image : Image) (n : ℕ) → IsSound image → image.epoch < most_epochs → IsSound (record image { epoch = image.epoch + 1; sequences = others image.sequences n })
sound_given_up image n h below_limit =
    let other : SeqRow → Bool = λ q. not (q.node == n) in
    let after : Image = record image { epoch = image.epoch + 1; sequences = others image.sequences n } in
    let part : IsPart (others image.sequences n) image.sequences = part_filter other image.sequences in
    let few : AreFew (ring_and_brought after) = few_part (part_append (part_all image.tokens) (part_flat (λ (q : SeqRow). brought_by q.kind q.in_pairs) other image.sequences)) (ring_and_brought_few image h) in
    record {
      epochs = omega (arith, below_limit);
      first_id = h.first_id;
      next_id = omega (arith, h.next_id);
      nodes = h.nodes;
      ring = record { ascending = h.ring.ascending; owners = h.ring.owners; few = h.ring.few };
      few_keyspaces = h.few_keyspaces;
      keyspaces = h.keyspaces;
      movements = part_sorted by_node part h.movements;
      fitting = part_all_of (IsMovement after) part (all_weaker (IsMovement image) (IsMovement after) (λ s. movement_kept image after s (as_before refl refl) h.ring) image.sequences h.fitting);
      once = once_others image.sequences n h.once;
      fresh = few.fresh;
      few_tokens = few.few;
    }

sound_cancel : (image : Image) (n : ℕ) → IsSound image → image.epoch < most_epochs → IsSound (next_image image (Cancel n))
unfolding next_image
sound_cancel image n h below_limit = by (movement_of image n)
  where
    back : (s : SeqRow) (b : Bool) → IsSound (record image { epoch = image.epoch + 1; sequences = if b then map (at_phase Started n) image.sequences else others image.sequences n })
    back s true = sound_phase Started image n h below_limit
    back s false = sound_given_up image n h below_limit

    by : (o : Option SeqRow) → IsSound (record image { epoch = image.epoch + 1; sequences = sequences_after_cancel image.sequences n o })
    by None = sound_keyspaces image image.keyspaces h.few_keyspaces h.keyspaces h below_limit
    by (Some s) = back s (same_phase s.phase Mid)

-- ---- commands

pub sound_next : (image : Image) (c : Command) → IsSound image → is_command c ≡ true → early_refusal_of image c ≡ None → image.epoch < most_epochs → IsSound (next_image image c)
unfolding next_image
sound_next image (Register name dc rack) h right none below_limit = sound_register image name dc rack h none below_limit
sound_next image (Unregister n) h right none below_limit = sound_unregister image n h none below_limit
sound_next image (UnsafeJoin n tokens) h right none below_limit = sound_unsafe_join image n tokens h right none below_limit
sound_next image (Keyspace name replication) h right none below_limit = sound_keyspace image name replication h none below_limit
sound_next image (DropKeyspace name) h right none below_limit = sound_drop_keyspace image name h below_limit
sound_next image (PrepareJoin n tokens) h right none below_limit = sound_begun image (PrepareJoin n tokens) (join_of n tokens) h right none refl below_limit
sound_next image (PrepareMove n t) h right none below_limit = sound_begun image (PrepareMove n t) (move_of image.tokens n t) h right none refl below_limit
sound_next image (PrepareLeave n) h right none below_limit = sound_begun image (PrepareLeave n) (leave_of image.tokens n) h right none refl below_limit
sound_next image (PrepareReplace n gone) h right none below_limit = sound_begun image (PrepareReplace n gone) (replace_of image.tokens n gone) h right none refl below_limit
sound_next image (Step g kind n) h right none below_limit = sound_step image g kind n h below_limit
sound_next image (Cancel n) h right none below_limit = sound_cancel image n h below_limit
