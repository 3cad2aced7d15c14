-- Quorums of adjacent movement epochs meet.
use Rattle.std.proofs.Common.{◌≡◌, ℕ, ◌+◌, ◌<◌, ◌≤◌, Bool, true, false, not, true≢false, ◌==◌, ℤ, [], ◌∷◌, ◌++◌, filter, length, map, Option, Some, None, is_some, option_and_then, if◌then◌else◌, inl, refl, sym, ap, ◌∙◌, subst}
use Rattle.std.proofs.lemmas.Bool.{and_parts, false≢true, not-false, not-true}
use Rattle.std.specs.List.{AllByRecursion, Contains}
use Rattle.std.specs.Str.{bytes_eq}
use Rattle.cluster_terms.specs.Arc.{IsToken}
use Rattle.cluster_terms.specs.Ascending.{put}
use Rattle.cluster_terms.specs.Replication.{IsReplication, total_of}
use Rattle.cluster_terms.specs.declared.node.NodeRow.{NodeRow}
use Rattle.transformations.proofs.commands.AcceptedLemmas.{early_accepted, none_of, test_false}
use Rattle.transformations.proofs.commands.KeyspacesAfter.{keyspace_stays}
use Rattle.transformations.proofs.quorums.FinishedSets.{share_done}
use Rattle.transformations.proofs.ranges.KeptNodes.{remaining_rows, standing_rows}
use Rattle.transformations.proofs.lists.ContainsLemmas.{all_contained, holds_of}
use Rattle.transformations.proofs.lists.ListLemmas.{all_weaker}
use Rattle.transformations.proofs.quorums.MeetingLemmas.{exist_at, meet_at, reads_few}
use Rattle.transformations.proofs.ranges.PreparedLemmas.{new_movement}
use Rattle.transformations.proofs.ranges.RangesKept.{own_found}
use Rattle.transformations.proofs.quorums.SameSets.{ShareSets, near, share_begun, share_keyspaces, share_reads, share_rows, share_without, share_writes}
use Rattle.transformations.proofs.quorums.ServedLemmas.{IsServed, served}
use Rattle.transformations.proofs.movements.SoleLemmas.{only_own}
use Rattle.transformations.proofs.histories.ValidLemmas.{valid_next}
use Rattle.transformations.specs.History.{changes_keyspace, is_command, most_epochs, next_image}
use Rattle.transformations.specs.Meeting.{AreWritten, ExistAt, HaveReplications, MeetAt, QuorumsMeet, QuorumsMeetAcross, is_unsafe_join}
use Rattle.transformations.specs.Orders.{by_name}
use Rattle.transformations.specs.Refusals.{early_refusal_of, keyspace_row, no_node, no_sequence, refusal_of, unless_next, wrong_step}
use Rattle.transformations.specs.Rings.{is_mid, has_started, reads_at}
use Rattle.transformations.specs.Movements.{at_phase, finished, is_next_step, join_of, leave_of, move_of, movement_of, others, phase_before, replace_of, same_kind, same_phase, sequences_after_cancel}
use Rattle.transformations.specs.Valid.{IsSound, IsValid}
use Rattle.transformations.specs.declared.command.Command.{Command}
use Rattle.transformations.specs.declared.command.Command.TheVariants.{Register, Unregister, UnsafeJoin, Keyspace, DropKeyspace, PrepareJoin, PrepareMove, PrepareLeave, PrepareReplace, Step, Cancel}
use Rattle.transformations.specs.declared.image.Image.{Image}
use Rattle.transformations.specs.declared.keyspace.KeyspaceRow.{KeyspaceRow}
use Rattle.transformations.specs.declared.refusal.Refusal.TheVariants.{NoSequence, WrongStep}
use Rattle.transformations.specs.declared.sequence.Goal.{Goal}
use Rattle.transformations.specs.declared.sequence.Goal.TheVariants as goal
use Rattle.transformations.specs.declared.sequence.Kind.{Kind}
use Rattle.transformations.specs.declared.sequence.Phase.{Phase}
use Rattle.transformations.specs.declared.sequence.Phase.TheVariants.{Prepared, Started, Mid}
use Rattle.transformations.specs.declared.sequence.SeqRow.{SeqRow}

-- ---- steps that are accepted

-- the movement of a node
pub record HasMovement (image : Image) (n : ℕ) : Type 0 where
  pub row : SeqRow
  pub found : movement_of image n ≡ Some row

moves : (image : Image) (n : ℕ) → no_sequence image n ≡ None → HasMovement image n
moves image n none = by (movement_of image n) refl (test_false (not (is_some (movement_of image n))) NoSequence none)
  where
    by : (o : Option SeqRow) → movement_of image n ≡ o → not (is_some o) ≡ false → HasMovement image n
    by None found test = absurd (true≢false test)
    by (Some s) found test = record { row = s; found = found }

pub step_moves : (image : Image) (g : Goal) (kind : Kind) (n : ℕ) → early_refusal_of image (Step g kind n) ≡ None → HasMovement image n
unfolding early_refusal_of
step_moves image g kind n none = moves image n (none_of (no_node image n ∷ no_sequence image n ∷ wrong_step g kind image n ∷ []) none).1.0

pub cancel_moves : (image : Image) (n : ℕ) → early_refusal_of image (Cancel n) ≡ None → HasMovement image n
unfolding early_refusal_of
cancel_moves image n none = moves image n (none_of (no_node image n ∷ no_sequence image n ∷ []) none).1.0

-- it is in the phase that the step goes on from
pub step_phase : (image : Image) (g : Goal) (kind : Kind) (n : ℕ) → early_refusal_of image (Step g kind n) ≡ None → (s : SeqRow) → movement_of image n ≡ Some s → same_phase s.phase (phase_before g) ≡ true
unfolding early_refusal_of
step_phase image g kind n none s found =
    let all = none_of (no_node image n ∷ no_sequence image n ∷ wrong_step g kind image n ∷ []) none in
    let wrong : unless_next g kind s ≡ None = sym (ap (option_and_then (unless_next g kind)) found) ∙ all.1.1.0 in
    (and_parts (same_kind s.kind kind) (same_phase s.phase (phase_before g)) (not-false (is_next_step g kind s) (test_false (not (is_next_step g kind s)) (WrongStep s.kind s.phase) wrong))).1

unseen : (phase : Phase) → same_phase phase Prepared ≡ true → is_mid phase ≡ false
unseen Prepared e = refl
unseen Started e = refl
unseen Mid e = absurd (false≢true e)

begun_before : (phase : Phase) → same_phase phase Started ≡ true → has_started phase ≡ true
begun_before Prepared e = absurd (false≢true e)
begun_before Started e = refl
begun_before Mid e = refl

pub half_way : (phase : Phase) → same_phase phase Mid ≡ true → is_mid phase ≡ true
half_way Prepared e = e
half_way Started e = e
half_way Mid e = refl

not_half_way : (phase : Phase) → same_phase phase Mid ≡ false → is_mid phase ≡ false
not_half_way Prepared e = refl
not_half_way Started e = refl
not_half_way Mid e = e

at_started : (phase : Phase) → same_phase phase Mid ≡ true → has_started phase ≡ true
at_started Prepared e = e
at_started Started e = refl
at_started Mid e = refl

-- what holds of it holds of each movement of the node
each_own : (P : SeqRow → Type 0) (image : Image) (n : ℕ) (s : SeqRow) → IsSound image → movement_of image n ≡ Some s → P s → AllByRecursion (λ (q : SeqRow). (q.node == n) ≡ true → P q) image.sequences
each_own P image n s h found here =
    all_weaker (λ (q : SeqRow). (q.node == n) ≡ true → q ≡ s) (λ (q : SeqRow). (q.node == n) ≡ true → P q) (λ q is own. subst P (sym (is own)) here) image.sequences
    (only_own n image.sequences s h.movements found)

-- ---- commands that give no tokens at once

share_step : (image : Image) (g : Goal) (kind : Kind) (n : ℕ) → IsSound image → early_refusal_of image (Step g kind n) ≡ None → ShareSets image (next_image image (Step g kind n))
unfolding next_image
share_step image goal.Start kind n h none =
    let m = step_moves image goal.Start kind n none in
    share_reads Started image n (image.epoch + 1)
    (each_own (λ q. is_mid q.phase ≡ is_mid Started) image n m.row h m.found (unseen m.row.phase (step_phase image goal.Start kind n none m.row m.found)))
share_step image goal.Mid kind n h none =
    let m = step_moves image goal.Mid kind n none in
    share_writes Mid image n (image.epoch + 1)
    (each_own (λ q. has_started q.phase ≡ has_started Mid) image n m.row h m.found (begun_before m.row.phase (step_phase image goal.Mid kind n none m.row m.found)))
share_step image goal.Finish kind n h none =
    let m = step_moves image goal.Finish kind n none in
    subst (λ o. ShareSets image (let after : Image = finished image o in record after { epoch = image.epoch + 1 })) (sym m.found)
    (share_done image m.row (image.epoch + 1) (own_found image n m.row m.found).1 h (half_way m.row.phase (step_phase image goal.Finish kind n none m.row m.found)))

share_cancel : (image : Image) (n : ℕ) → IsSound image → early_refusal_of image (Cancel n) ≡ None → ShareSets image (next_image image (Cancel n))
unfolding next_image
share_cancel image n h none =
    let m = cancel_moves image n none in
    subst (λ o. ShareSets image (record image { epoch = image.epoch + 1; sequences = sequences_after_cancel image.sequences n o })) (sym m.found) (by m.row m.found (same_phase m.row.phase Mid) refl)
  where
    by : (s : SeqRow) → movement_of image n ≡ Some s → (b : Bool) → same_phase s.phase Mid ≡ b
        → ShareSets image (record image { epoch = image.epoch + 1; sequences = if b then map (at_phase Started n) image.sequences else others image.sequences n })
    by s found true e = share_writes Started image n (image.epoch + 1) (each_own (λ q. has_started q.phase ≡ has_started Started) image n s h found (at_started s.phase e))
    by s found false e = share_without image (image.epoch + 1) n (each_own (λ q. is_mid q.phase ≡ false) image n s h found (not_half_way s.phase e))

share_next : (image : Image) (c : Command) → IsSound image → is_command c ≡ true → refusal_of image c ≡ None → is_unsafe_join c ≡ false → ShareSets image (next_image image c)
unfolding next_image
share_next image (Register name dc rack) h right none is =
    let row : NodeRow = record { id = image.next; name = name; dc = dc; rack = rack; left = false } in
    share_rows image (image.epoch + 1) (image.next + 1) (image.nodes ++ row ∷ []) (standing_rows image (row ∷ []) h)
share_next image (Unregister n) h right none is =
    share_rows image (image.epoch + 1) image.next (filter (λ (row : NodeRow). not (row.id == n)) image.nodes) (remaining_rows image n h (early_accepted image (Unregister n) none))
share_next image (UnsafeJoin n tokens) h right none is = absurd (true≢false is)
share_next image (Keyspace name replication) h right none is = share_keyspaces image (image.epoch + 1) (put by_name (keyspace_row name replication) image.keyspaces)
share_next image (DropKeyspace name) h right none is = share_keyspaces image (image.epoch + 1) (filter (λ (row : KeyspaceRow). not (bytes_eq row.name name)) image.keyspaces)
share_next image (PrepareJoin n tokens) h right none is = share_begun image (join_of n tokens) (new_movement image (PrepareJoin n tokens) (join_of n tokens) h right none refl) refl
share_next image (PrepareMove n t) h right none is = share_begun image (move_of image.tokens n t) (new_movement image (PrepareMove n t) (move_of image.tokens n t) h right none refl) refl
share_next image (PrepareLeave n) h right none is = share_begun image (leave_of image.tokens n) (new_movement image (PrepareLeave n) (leave_of image.tokens n) h right none refl) refl
share_next image (PrepareReplace n gone) h right none is =
    share_begun image (replace_of image.tokens n gone) (new_movement image (PrepareReplace n gone) (replace_of image.tokens n gone) h right none refl) refl
share_next image (Step g kind n) h right none is = share_step image g kind n h (early_accepted image (Step g kind n) none)
share_next image (Cancel n) h right none is = share_cancel image n h (early_accepted image (Cancel n) none)

-- ---- the law

pub each_written : (image : Image) → IsValid image → (x : ℤ) → IsToken x → AllByRecursion (λ k. AreWritten image k.replication x) image.keyspaces
each_written image h x token =
    all_weaker (λ (k : KeyspaceRow). IsServed image k.replication x) (λ (k : KeyspaceRow). AreWritten image k.replication x) (λ k s. s.written) image.keyspaces (served image h x token)

pub each_few : (image : Image) → IsValid image → (x : ℤ) → IsToken x → AllByRecursion (λ k. length (reads_at image k.replication x) ≤ total_of k.replication) image.keyspaces
each_few image h x token =
    all_weaker (λ (k : KeyspaceRow). IsServed image k.replication x) (λ (k : KeyspaceRow). length (reads_at image k.replication x) ≤ total_of k.replication)
    (λ k s. reads_few image k.replication x s) image.keyspaces (served image h x token)

pub each_exist : (image : Image) → IsValid image → (x : ℤ) → IsToken x → AllByRecursion (λ k. ExistAt image k.replication x) image.keyspaces
each_exist image h x token =
    all_weaker (λ (k : KeyspaceRow). IsServed image k.replication x) (λ (k : KeyspaceRow). ExistAt image k.replication x) (λ k s. exist_at image k.replication x s) image.keyspaces (served image h x token)

-- two valid images that share sets, under a keyspace of both
meet_sharing : (image after : Image) → IsValid image → IsValid after → HaveReplications image → ShareSets image after → (k : KeyspaceRow) → Contains image.keyspaces k → Contains after.keyspaces k
    → (x : ℤ) → IsToken x → MeetAt image after k.replication x
meet_sharing image after h later valid share k there stays x token =
    let s : IsServed image k.replication x = holds_of (λ (k : KeyspaceRow). IsServed image k.replication x) image.keyspaces k (served image h x token) there in
    let t : IsServed after k.replication x = holds_of (λ (k : KeyspaceRow). IsServed after k.replication x) after.keyspaces k (served after later x token) stays in
    meet_at image after k.replication x (near image after k.replication x s t (share k.replication x)) s t (holds_of (λ (k : KeyspaceRow). IsReplication k.replication) image.keyspaces k valid there)

pub meet_itself : (image : Image) → IsValid image → HaveReplications image → QuorumsMeet image image
meet_itself image h valid = λ x token.
    all_contained (λ (k : KeyspaceRow). MeetAt image image k.replication x) image.keyspaces
    (λ k there. meet_sharing image image h h valid (λ r x. inl (record { reads = refl; places = λ dc v there. refl })) k there there x token)

pub meet_next : (image : Image) (c : Command) → IsValid image → HaveReplications image → is_command c ≡ true → refusal_of image c ≡ None → image.epoch < most_epochs → QuorumsMeetAcross image c
meet_next image c h valid right none below_limit = λ k there moves.
    let parts = and_parts (not (is_unsafe_join c)) (not (changes_keyspace k.name c)) moves in
    let stays = keyspace_stays image c k there (not-true (changes_keyspace k.name c) parts.1) in
    record {
      stays = stays;
      meet = meet_sharing image (next_image image c) h (valid_next image c h right none below_limit) valid (share_next image c h.sound right none (not-true (is_unsafe_join c) parts.0)) k there stays;
    }
