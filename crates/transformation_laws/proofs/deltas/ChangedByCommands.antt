-- Commands change what is read and written by their deltas, under each keyspace for which they make a movement epoch.
use Rattle.std.proofs.Common.{◌≡◌, ℕ, ◌+◌, Bool, true, false, true≢false, not, ◌&&◌, if◌then◌else◌, ◌==◌, nat_eq, ℤ, List, [], ◌∷◌, ◌++◌, filter, find, map, Some, None, refl, sym, ap, ◌∙◌, subst, arith}
use Rattle.std.proofs.Math.Bool.{and_comm}
use Rattle.std.proofs.lemmas.Bool.{and_parts, false≢true}
use Rattle.std.proofs.lemmas.Bool.Decides.{nat_tests}
use Rattle.std.specs.Cmp.{unsigned_tied}
use Rattle.std.specs.List.{AllByRecursion, IsDistinct}
use Rattle.std.specs.Ordering.{eq_by_cmp, nat_cmp}
use Rattle.std.specs.Str.{bytes_eq}
use Rattle.cluster_terms.proofs.placement.PlacedNodes.{placed_nodes}
use Rattle.cluster_terms.proofs.quorums.QuorumLemmas.{Ascend}
use Rattle.cluster_terms.specs.Arc.{IsToken}
use Rattle.cluster_terms.specs.Ascending.{put, put_all}
use Rattle.cluster_terms.specs.Group.{place}
use Rattle.cluster_terms.specs.NodeRow.{row_of}
use Rattle.cluster_terms.specs.Replication.{groups_of}
use Rattle.cluster_terms.specs.declared.node.NodeRow.{NodeRow}
use Rattle.cluster_terms.specs.declared.replication.Replication.{Replication}
use Rattle.cluster_terms.specs.declared.token.Pair.{Pair}
use Rattle.transformations.proofs.commands.AcceptedLemmas.{early_accepted}
use Rattle.transformation_laws.proofs.deltas.ChangedOutcomes.{changed_at, none_changed}
use Rattle.transformation_laws.proofs.deltas.OutcomesAfter.{only_at_phase, only_done, only_without, outcomes_at, outcomes_done, outcomes_without, placed_at_phase, placed_done, placed_without}
use Rattle.transformations.proofs.deltas.OutsideDeltas.{is_own}
use Rattle.transformation_laws.proofs.deltas.SetChanges.{Turns, finish_turns, half_way_turns, mid_turns, prepared_turns, start_turns, started_turns}
use Rattle.transformations.proofs.lists.FilterLemmas.{filter_put}
use Rattle.transformations.proofs.lists.ListLemmas.{all_each, all_weaker, part_all_of, part_front}
use Rattle.transformations.proofs.movements.DoneLemmas.{done}
use Rattle.transformations.proofs.movements.SoleLemmas.{distinct_each}
use Rattle.transformations.proofs.quorums.AdjacentLemmas.{cancel_moves, half_way, step_moves, step_phase}
use Rattle.transformations.proofs.ranges.MovementsApart.{found_apart}
use Rattle.transformations.proofs.ranges.KeptNodes.{HaveRows, remaining_rows, standing_rows}
use Rattle.transformations.proofs.ranges.PreparedLemmas.{new_movement}
use Rattle.transformations.proofs.ranges.RangesKept.{apart_at, own_found}
use Rattle.transformations.proofs.ranges.RowsServed.{ring_part}
use Rattle.transformations.specs.DeltaSteps.{AreChanged, ChangesByDeltas, PlacementDelta, cancel_delta, delta_of_command, delta_of_movement, no_changes, step_delta}
use Rattle.transformations.specs.MovementDeltas.{gained_at, lost_at}
use Rattle.transformations.specs.History.{begun, changes_keyspace, is_command, next_image}
use Rattle.transformations.specs.Meeting.{is_unsafe_join, makes_movement_epoch}
use Rattle.transformations.specs.Orders.{by_name, by_node}
use Rattle.transformations.specs.Ranges.{in_ranges}
use Rattle.transformations.specs.Refusals.{early_refusal_of, keyspace_row, prepared_by, refusal_of}
use Rattle.transformations.specs.Rings.{has_started, incoming, is_mid, outgoing, reads_at, replaced, ring_at, widest, writes_at}
use Rattle.transformations.specs.Movements.{at_phase, finished, join_of, leave_of, move_of, movement_of, others, replace_of, same_phase, sequences_after_cancel}
use Rattle.transformations.specs.Valid.{IsSound, IsValid}
use Rattle.transformations.specs.declared.command.Command.{Command}
use Rattle.transformations.specs.declared.command.Command.TheVariants.{Register, Unregister, UnsafeJoin, Keyspace, DropKeyspace, PrepareJoin, PrepareMove, PrepareLeave, PrepareReplace, Step, Cancel}
use Rattle.transformations.specs.declared.image.Image.{Image}
use Rattle.transformations.specs.declared.keyspace.KeyspaceRow.{KeyspaceRow}
use Rattle.transformations.specs.declared.sequence.Goal.{Goal}
use Rattle.transformations.specs.declared.sequence.Goal.TheVariants as goal
use Rattle.transformations.specs.declared.sequence.Kind.{Kind}
use Rattle.transformations.specs.declared.sequence.Phase.{Phase}
use Rattle.transformations.specs.declared.sequence.Phase.TheVariants.{Prepared, Started, Mid}
use Rattle.transformations.specs.declared.sequence.SeqRow.{SeqRow}

-- ---- other nodes, other keyspaces, and one more movement

module _ (image : Image) (epoch next : ℕ) (nodes : List NodeRow) (rows : HaveRows image nodes (widest image)) where
  abbrev with_nodes : Image
  with_nodes = record image { epoch = epoch; next = next; nodes = nodes }

  abbrev HasRow : Pair → Type 0
  HasRow p = row_of image.nodes p.node ≡ row_of nodes p.node

  ring_rows : (r : Replication) (x : ℤ) (applied : Phase → Bool) → place (groups_of nodes r) x (ring_at applied image) ≡ place (groups_of image.nodes r) x (ring_at applied image)
  ring_rows r x applied = sym (placed_nodes image.nodes nodes x (ring_at applied image) (part_all_of HasRow (ring_part applied image) rows) r)

  low_rows : (r : Replication) (x : ℤ) → place (groups_of nodes r) x image.tokens ≡ place (groups_of image.nodes r) x image.tokens
  low_rows r x = sym (placed_nodes image.nodes nodes x image.tokens (part_all_of HasRow (part_front image.tokens (incoming image.sequences)) rows) r)

  rows_changed : (r : Replication) (x : ℤ) → AreChanged image with_nodes r x no_changes
  unfolding reads_at writes_at
  rows_changed r x = none_changed image with_nodes r x (ring_rows r x is_mid) (λ i. put_all nat_cmp (low_rows r x i) (ring_rows r x has_started i))

keyspaces_changed : (image : Image) (epoch : ℕ) (keyspaces : List KeyspaceRow) (r : Replication) (x : ℤ) → AreChanged image (record image { epoch = epoch; keyspaces = keyspaces }) r x no_changes
unfolding reads_at writes_at
keyspaces_changed image epoch keyspaces r x = none_changed image (record image { epoch = epoch; keyspaces = keyspaces }) r x refl refl

module _ (image : Image) (j : SeqRow) (new : AllByRecursion (λ (s : SeqRow). (s.node == j.node) ≡ false) image.sequences) (is : j.phase ≡ Prepared) where
  untied : (n m : ℕ) → (m == n) ≡ false → eq_by_cmp nat_cmp n m ≡ false
  untied n m other = unsigned_tied n m ∙ turned other
    where
      turned : (m == n) ≡ false → nat_eq n m ≡ false
      turned apart = grind (arith, nat_tests)

  ring_begun : (applied : Phase → Bool) → applied Prepared ≡ false → ring_at applied (begun image j) ≡ ring_at applied image
  ring_begun applied none =
      ap (λ some. replaced image.tokens (outgoing some) (incoming some))
      (filter_put by_node (λ (s : SeqRow). applied s.phase) j image.sequences (ap applied is ∙ none)
      (all_weaker (λ (s : SeqRow). (s.node == j.node) ≡ false) (λ (s : SeqRow). eq_by_cmp by_node j s ≡ false) (λ s other. untied j.node s.node other) image.sequences new))

  begun_changed : (r : Replication) (x : ℤ) → AreChanged image (begun image j) r x no_changes
  unfolding reads_at writes_at
  begun_changed r x =
      none_changed image (begun image j) r x (ap (place (groups_of image.nodes r) x) (ring_begun is_mid refl))
      (ap (λ ring. put_all nat_cmp (place (groups_of image.nodes r) x image.tokens) (place (groups_of image.nodes r) x ring)) (ring_begun has_started refl))

-- ---- the movement of a node

module _ (image : Image) (h : IsSound image) (s : SeqRow) (found : find (λ (q : SeqRow). q.node == s.node) image.sequences ≡ Some s) (epoch : ℕ) (r : Replication) (x : ℤ)
    (apart : AllByRecursion (λ q. is_own s q ≡ false → (in_ranges image r s x && in_ranges image r q x) ≡ false) image.sequences) where
  abbrev gained : List ℕ
  gained = gained_at image r s x

  abbrev lost : List ℕ
  lost = lost_at image r s x

  abbrev at : Phase → ℕ → Image
  at phase n = record image { epoch = epoch; sequences = map (at_phase phase n) image.sequences }

  abbrev without_it : Image
  without_it = record image { epoch = epoch; sequences = others image.sequences s.node }

  start_changed : same_phase s.phase Prepared ≡ true → AreChanged image (at Started s.node) r x (step_delta goal.Start gained lost)
  start_changed is =
      changed_at image h r x s found (at Started s.node) (outcomes_at Started s.node) (placed_at_phase Started s.node image h epoch r x) (step_delta goal.Start) refl false false true (only_at_phase Started s)
      (λ low high up grown. by low high up grown s.phase is) apart
    where
      by : (low high : List ℕ) → Ascend low → Ascend high → (phase : Phase) → same_phase phase Prepared ≡ true → Turns (step_delta goal.Start) (is_mid phase) (has_started phase) false false true low high
      by low high up grown Prepared e = start_turns low high up grown
      by low high up grown Started e = absurd (false≢true e)
      by low high up grown Mid e = absurd (false≢true e)

  mid_changed : same_phase s.phase Started ≡ true → AreChanged image (at Mid s.node) r x (step_delta goal.Mid gained lost)
  mid_changed is =
      changed_at image h r x s found (at Mid s.node) (outcomes_at Mid s.node) (placed_at_phase Mid s.node image h epoch r x) (step_delta goal.Mid) refl false true true (only_at_phase Mid s)
      (λ low high up grown. by low high up grown s.phase is) apart
    where
      by : (low high : List ℕ) → Ascend low → Ascend high → (phase : Phase) → same_phase phase Started ≡ true → Turns (step_delta goal.Mid) (is_mid phase) (has_started phase) false true true low high
      by low high up grown Prepared e = absurd (false≢true e)
      by low high up grown Started e = mid_turns low high up grown
      by low high up grown Mid e = absurd (false≢true e)

  finish_changed : same_phase s.phase Mid ≡ true → AreChanged image (done image s epoch) r x (step_delta goal.Finish gained lost)
  finish_changed is =
      changed_at image h r x s found (done image s epoch) (outcomes_done s) (placed_done image h s epoch found r x (half_way s.phase is)) (step_delta goal.Finish) refl true true true
      (only_done s (half_way s.phase is)) (λ low high up grown. by low high up grown s.phase is) apart
    where
      by : (low high : List ℕ) → Ascend low → Ascend high → (phase : Phase) → same_phase phase Mid ≡ true → Turns (step_delta goal.Finish) (is_mid phase) (has_started phase) true true true low high
      by low high up grown Prepared e = absurd (false≢true e)
      by low high up grown Started e = absurd (false≢true e)
      by low high up grown Mid e = finish_turns low high up grown

  -- a cancel of a movement at this phase
  cancel_changed : AreChanged image (record image { epoch = epoch; sequences = if same_phase s.phase Mid then map (at_phase Started s.node) image.sequences else others image.sequences s.node }) r x (cancel_delta s.phase gained lost)
  cancel_changed = by s.phase refl
    where
      given_up : (phase : Phase) → cancel_delta phase [] [] ≡ no_changes
          → ((low high : List ℕ) → Ascend low → Ascend high → Turns (cancel_delta phase) (is_mid s.phase) (has_started s.phase) false false false low high)
          → AreChanged image without_it r x (cancel_delta phase gained lost)
      given_up phase empty turns =
          changed_at image h r x s found without_it (outcomes_without s.node) (placed_without image h s.node epoch r x) (cancel_delta phase) empty false false false (only_without s) turns apart

      by : (phase : Phase) → s.phase ≡ phase
          → AreChanged image (record image { epoch = epoch; sequences = if same_phase phase Mid then map (at_phase Started s.node) image.sequences else others image.sequences s.node }) r x (cancel_delta phase gained lost)
      by Prepared is =
          given_up Prepared refl (λ low high up grown. subst (λ phase. Turns (cancel_delta Prepared) (is_mid phase) (has_started phase) false false false low high) (sym is) (prepared_turns low high up grown))
      by Started is =
          given_up Started refl (λ low high up grown. subst (λ phase. Turns (cancel_delta Started) (is_mid phase) (has_started phase) false false false low high) (sym is) (started_turns low high up grown))
      by Mid is =
          changed_at image h r x s found (at Started s.node) (outcomes_at Started s.node) (placed_at_phase Started s.node image h epoch r x) (cancel_delta Mid) refl false false true (only_at_phase Started s)
          (λ low high up grown. subst (λ phase. Turns (cancel_delta Mid) (is_mid phase) (has_started phase) false false true low high) (sym is) (half_way_turns low high up grown)) apart

-- ---- under each keyspace

-- what holds under each replication, if no other movement shares x with the movement there
each_apart : (image : Image) → IsValid image → (s : SeqRow) → find (λ (q : SeqRow). q.node == s.node) image.sequences ≡ Some s → (x : ℤ) → IsToken x → (P : Replication → Type 0)
    → ((r : Replication) → AllByRecursion (λ q. is_own s q ≡ false → (in_ranges image r s x && in_ranges image r q x) ≡ false) image.sequences → P r)
    → AllByRecursion (λ k. P k.replication) image.keyspaces
each_apart image h s found x token P each =
    all_weaker (λ (k : KeyspaceRow). IsDistinct (λ a b. in_ranges image k.replication a x && in_ranges image k.replication b x) image.sequences) (λ (k : KeyspaceRow). P k.replication)
    (λ k apart. each k.replication
    (found_apart (λ a b. in_ranges image k.replication a x && in_ranges image k.replication b x) (λ a b. and_comm (in_ranges image k.replication a x) (in_ranges image k.replication b x)) s.node image.sequences s found apart))
    image.keyspaces
    (distinct_each (λ a b (k : KeyspaceRow). in_ranges image k.replication a x && in_ranges image k.replication b x) image.sequences image.keyspaces (apart_at image h x token))

-- what a command changes under each keyspace of the image
abbrev IsChangedAt : Image → Command → ℤ → KeyspaceRow → Type 0
IsChangedAt image c x k = AreChanged image (next_image image c) k.replication x (delta_of_command image c k.replication x)

abbrev ChangesEach : Image → Command → Type 0
ChangesEach image c = (x : ℤ) → IsToken x → AllByRecursion (IsChangedAt image c x) image.keyspaces

-- a command that changes nothing
each_none : (image : Image) (c : Command) → ((r : Replication) (x : ℤ) → AreChanged image (next_image image c) r x no_changes) → ((r : Replication) (x : ℤ) → delta_of_command image c r x ≡ no_changes)
    → ChangesEach image c
each_none image c changed none = λ x token.
    all_each (IsChangedAt image c x)
    (λ k. subst (AreChanged image (next_image image c) k.replication x) (sym (none k.replication x)) (changed k.replication x)) image.keyspaces

prepares : (image : Image) (c : Command) (j : SeqRow) → IsSound image → is_command c ≡ true → refusal_of image c ≡ None → prepared_by image.tokens c ≡ Some j → j.phase ≡ Prepared
    → (r : Replication) (x : ℤ) → AreChanged image (begun image j) r x no_changes
prepares image c j h right none is phase = begun_changed image j (new_movement image c j h right none is) phase

-- the movement of a node, by its own node
module _ (image : Image) (h : IsValid image) (n : ℕ) (s : SeqRow) (moves : movement_of image n ≡ Some s) (after : Image) (delta : SeqRow → List ℕ → List ℕ → PlacementDelta) where
  changes_by : ((r : Replication) (x : ℤ) → s.node ≡ n → find (λ (q : SeqRow). q.node == s.node) image.sequences ≡ Some s
      → AllByRecursion (λ q. is_own s q ≡ false → (in_ranges image r s x && in_ranges image r q x) ≡ false) image.sequences
      → AreChanged image after r x (delta s (gained_at image r s x) (lost_at image r s x)))
      → (x : ℤ) → IsToken x → AllByRecursion (λ k. AreChanged image after k.replication x (delta_of_movement delta image k.replication x (movement_of image n))) image.keyspaces
  changes_by changed x token =
      let own = own_found image n s moves in
      each_apart image h s own.1 x token (λ r. AreChanged image after r x (delta_of_movement delta image r x (movement_of image n)))
      (λ r apart. subst (λ o. AreChanged image after r x (delta_of_movement delta image r x o)) (sym moves) (changed r x own.0 own.1 apart))

changes_step : (image : Image) (g : Goal) (kind : Kind) (n : ℕ) → IsValid image → early_refusal_of image (Step g kind n) ≡ None → ChangesEach image (Step g kind n)
unfolding next_image
changes_step image goal.Start kind n h none =
    let m = step_moves image goal.Start kind n none in
    let s : SeqRow = m.row in
    changes_by image h n s m.found (next_image image (Step goal.Start kind n)) (λ s. step_delta goal.Start)
    (λ r x node found apart. subst (λ k. AreChanged image (record image { epoch = image.epoch + 1; sequences = map (at_phase Started k) image.sequences }) r x (step_delta goal.Start (gained_at image r s x) (lost_at image r s x))) node
    (start_changed image h.sound s found (image.epoch + 1) r x apart (step_phase image goal.Start kind n none s m.found)))
changes_step image goal.Mid kind n h none =
    let m = step_moves image goal.Mid kind n none in
    let s : SeqRow = m.row in
    changes_by image h n s m.found (next_image image (Step goal.Mid kind n)) (λ s. step_delta goal.Mid)
    (λ r x node found apart. subst (λ k. AreChanged image (record image { epoch = image.epoch + 1; sequences = map (at_phase Mid k) image.sequences }) r x (step_delta goal.Mid (gained_at image r s x) (lost_at image r s x))) node
    (mid_changed image h.sound s found (image.epoch + 1) r x apart (step_phase image goal.Mid kind n none s m.found)))
changes_step image goal.Finish kind n h none =
    let m = step_moves image goal.Finish kind n none in
    let s : SeqRow = m.row in
    changes_by image h n s m.found (next_image image (Step goal.Finish kind n)) (λ s. step_delta goal.Finish)
    (λ r x node found apart. subst (λ o. AreChanged image (let after : Image = finished image o in record after { epoch = image.epoch + 1 }) r x (step_delta goal.Finish (gained_at image r s x) (lost_at image r s x))) (sym m.found)
    (finish_changed image h.sound s found (image.epoch + 1) r x apart (step_phase image goal.Finish kind n none s m.found)))

changes_cancel : (image : Image) (n : ℕ) → IsValid image → early_refusal_of image (Cancel n) ≡ None → ChangesEach image (Cancel n)
unfolding next_image
changes_cancel image n h none =
    let m = cancel_moves image n none in
    let s : SeqRow = m.row in
    changes_by image h n s m.found (next_image image (Cancel n)) (λ s. cancel_delta s.phase)
    (λ r x node found apart. subst (λ o. AreChanged image (record image { epoch = image.epoch + 1; sequences = sequences_after_cancel image.sequences n o }) r x (cancel_delta s.phase (gained_at image r s x) (lost_at image r s x))) (sym m.found)
    (subst (λ k. AreChanged image (record image { epoch = image.epoch + 1; sequences = sequences_after_cancel image.sequences k (Some s) }) r x (cancel_delta s.phase (gained_at image r s x) (lost_at image r s x))) node
    (cancel_changed image h.sound s found (image.epoch + 1) r x apart)))

changes_each : (image : Image) (c : Command) → IsValid image → is_command c ≡ true → refusal_of image c ≡ None → is_unsafe_join c ≡ false → ChangesEach image c
unfolding next_image
changes_each image (Register name dc rack) h right none is =
    let row : NodeRow = record { id = image.next; name = name; dc = dc; rack = rack; left = false } in
    each_none image (Register name dc rack) (rows_changed image (image.epoch + 1) (image.next + 1) (image.nodes ++ row ∷ []) (standing_rows image (row ∷ []) h.sound)) (λ r x. refl)
changes_each image (Unregister n) h right none is =
    let nodes : List NodeRow = filter (λ (row : NodeRow). not (row.id == n)) image.nodes in
    each_none image (Unregister n) (rows_changed image (image.epoch + 1) image.next nodes (remaining_rows image n h.sound (early_accepted image (Unregister n) none))) (λ r x. refl)
changes_each image (UnsafeJoin n tokens) h right none is = absurd (true≢false is)
changes_each image (Keyspace name replication) h right none is =
    each_none image (Keyspace name replication) (keyspaces_changed image (image.epoch + 1) (put by_name (keyspace_row name replication) image.keyspaces)) (λ r x. refl)
changes_each image (DropKeyspace name) h right none is =
    each_none image (DropKeyspace name) (keyspaces_changed image (image.epoch + 1) (filter (λ (row : KeyspaceRow). not (bytes_eq row.name name)) image.keyspaces)) (λ r x. refl)
changes_each image (PrepareJoin n tokens) h right none is = each_none image (PrepareJoin n tokens) (prepares image (PrepareJoin n tokens) (join_of n tokens) h.sound right none refl refl) (λ r x. refl)
changes_each image (PrepareMove n t) h right none is = each_none image (PrepareMove n t) (prepares image (PrepareMove n t) (move_of image.tokens n t) h.sound right none refl refl) (λ r x. refl)
changes_each image (PrepareLeave n) h right none is = each_none image (PrepareLeave n) (prepares image (PrepareLeave n) (leave_of image.tokens n) h.sound right none refl refl) (λ r x. refl)
changes_each image (PrepareReplace n gone) h right none is =
    each_none image (PrepareReplace n gone) (prepares image (PrepareReplace n gone) (replace_of image.tokens n gone) h.sound right none refl refl) (λ r x. refl)
changes_each image (Step g kind n) h right none is = changes_step image g kind n h (early_accepted image (Step g kind n) none)
changes_each image (Cancel n) h right none is = changes_cancel image n h (early_accepted image (Cancel n) none)

pub changes_by_deltas : (image : Image) (c : Command) → IsValid image → is_command c ≡ true → refusal_of image c ≡ None → ChangesByDeltas image c
changes_by_deltas image c h right none = λ x token. by x token (is_unsafe_join c) refl
  where
    no_epoch : (k : KeyspaceRow) → is_unsafe_join c ≡ true → makes_movement_epoch k.name c ≡ true → ⊥
    no_epoch k gives moves = false≢true (sym (ap not gives) ∙ (and_parts (not (is_unsafe_join c)) (not (changes_keyspace k.name c)) moves).0)

    by : (x : ℤ) → IsToken x → (b : Bool) → is_unsafe_join c ≡ b → AllByRecursion (λ (k : KeyspaceRow). makes_movement_epoch k.name c ≡ true → IsChangedAt image c x k) image.keyspaces
    by x token true gives = all_each (λ (k : KeyspaceRow). makes_movement_epoch k.name c ≡ true → IsChangedAt image c x k) (λ k moves. absurd (no_epoch k gives moves)) image.keyspaces
    by x token false gives =
        all_weaker (IsChangedAt image c x) (λ (k : KeyspaceRow). makes_movement_epoch k.name c ≡ true → IsChangedAt image c x k) (λ k changed moves. changed) image.keyspaces (changes_each image c h right none gives x token)
