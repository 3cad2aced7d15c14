-- The commands that are accepted keep the deltas of the movements that go on.
use Rattle.std.proofs.Common.{◌≡◌, ℕ, ◌+◌, true, false, not, ◌==◌, List, [], ◌∷◌, ◌++◌, filter, find, map, Some, None, is_some, refl}
use Rattle.cluster_terms.specs.declared.node.NodeRow.{NodeRow}
use Rattle.transformations.proofs.commands.AcceptedLemmas.{early_accepted, unsafe_join_idle}
use Rattle.transformations.proofs.deltas.DoneDeltas.{deltas_done}
use Rattle.transformations.proofs.deltas.KeptDeltas.{HasKept, deltas_rows, keeps_all_deltas, keeps_deltas, keeps_placed}
use Rattle.transformations.proofs.lists.ListLemmas.{all_none, all_weaker}
use Rattle.transformations.proofs.movements.DoneLemmas.{done}
use Rattle.transformations.proofs.movements.MovementLemmas.{still_other}
use Rattle.transformations.proofs.movements.MovesOn.{on_none, on_others, on_phase, on_put, on_same}
use Rattle.transformations.proofs.ranges.KeptNodes.{remaining_rows, standing_rows}
use Rattle.transformations.proofs.ranges.PreparedLemmas.{new_movement}
use Rattle.transformations.proofs.ranges.RangesKept.{cancel_by, finish_by}
use Rattle.transformations.specs.MovementDeltas.{KeepsDeltas}
use Rattle.transformations.specs.History.{begun, is_command, next_image}
use Rattle.transformations.specs.Refusals.{prepared_by, refusal_of}
use Rattle.transformations.specs.Movements.{at_phase, join_of, leave_of, move_of, movement_of, others, replace_of}
use Rattle.transformations.specs.Valid.{IsValid}
use Rattle.transformations.specs.declared.command.Command.{Command}
use Rattle.transformations.specs.declared.command.Command.TheVariants.{Register, Unregister, UnsafeJoin, Keyspace, DropKeyspace, PrepareJoin, PrepareMove, PrepareLeave, PrepareReplace, Step, Cancel}
use Rattle.transformations.specs.declared.image.Image.{Image}
use Rattle.transformations.specs.declared.sequence.Goal.{Goal}
use Rattle.transformations.specs.declared.sequence.Goal.TheVariants as goal
use Rattle.transformations.specs.declared.sequence.Kind.{Kind}
use Rattle.transformations.specs.declared.sequence.Phase.{Phase}
use Rattle.transformations.specs.declared.sequence.Phase.TheVariants.{Started, Mid}
use Rattle.transformations.specs.declared.sequence.SeqRow.{SeqRow}

-- the ring and the nodes stay where a movement is in another phase, where one is given up, and where none changes
phase_deltas : (phase : Phase) (image : Image) (n epoch : ℕ) → IsValid image → KeepsDeltas image (record image { epoch = epoch; sequences = map (at_phase phase n) image.sequences })
phase_deltas phase image n epoch h =
    keeps_placed image (record image { epoch = epoch; sequences = map (at_phase phase n) image.sequences }) (on_phase phase n image.sequences h.sound.movements) refl refl

given_up_deltas : (image : Image) (n epoch : ℕ) → IsValid image → KeepsDeltas image (record image { epoch = epoch; sequences = others image.sequences n })
given_up_deltas image n epoch h =
    keeps_placed image (record image { epoch = epoch; sequences = others image.sequences n }) (on_others n image.sequences h.sound.movements) refl refl

later_deltas : (image : Image) (epoch : ℕ) → IsValid image → KeepsDeltas image (record image { epoch = epoch })
later_deltas image epoch h = keeps_placed image (record image { epoch = epoch }) (on_same image.sequences h.sound.movements) refl refl

-- a movement is done
done_deltas : (image : Image) (t : SeqRow) (epoch : ℕ) → find (λ (q : SeqRow). q.node == t.node) image.sequences ≡ Some t → IsValid image → KeepsDeltas image (done image t epoch)
done_deltas image t epoch found h =
    let after : Image = done image t epoch in
    keeps_deltas image after (on_others t.node image.sequences h.sound.movements)
    (λ x token. all_weaker (λ (s : SeqRow). (s.node == t.node) ≡ false → HasKept image after x s) (λ (s : SeqRow). is_some (movement_of after s.node) ≡ true → HasKept image after x s)
    (λ s kept on. kept (still_other t.node s.node image.sequences on)) image.sequences (deltas_done image h t epoch found x token))

step_deltas : (image : Image) (g : Goal) (kind : Kind) (n : ℕ) → IsValid image → KeepsDeltas image (next_image image (Step g kind n))
unfolding next_image
step_deltas image goal.Start kind n h = phase_deltas Started image n (image.epoch + 1) h
step_deltas image goal.Mid kind n h = phase_deltas Mid image n (image.epoch + 1) h
step_deltas image goal.Finish kind n h =
    finish_by (KeepsDeltas image) image n (image.epoch + 1) (λ none. later_deltas image (image.epoch + 1) h) (λ s found. done_deltas image s (image.epoch + 1) found h)

cancel_deltas : (image : Image) (n : ℕ) → IsValid image → KeepsDeltas image (next_image image (Cancel n))
unfolding next_image
cancel_deltas image n h =
    cancel_by (KeepsDeltas image) image n (image.epoch + 1) (λ none. later_deltas image (image.epoch + 1) h) (phase_deltas Started image n (image.epoch + 1) h)
    (λ s found. given_up_deltas image s.node (image.epoch + 1) h)

-- a movement is prepared
begun_deltas : (image : Image) (c : Command) (j : SeqRow) → IsValid image → is_command c ≡ true → refusal_of image c ≡ None → prepared_by image.tokens c ≡ Some j → KeepsDeltas image (begun image j)
begun_deltas image c j h right none is =
    keeps_placed image (begun image j) (on_put j image.sequences (new_movement image c j h.sound right none is) h.sound.movements) refl refl

-- there is no movement
idle_deltas : (image after : Image) → image.sequences ≡ [] → KeepsDeltas image after
idle_deltas image after none = keeps_all_deltas image after (on_none image.sequences after.sequences none) (λ x. all_none (HasKept image after x) image.sequences none)

pub deltas_kept : (image : Image) (c : Command) → IsValid image → is_command c ≡ true → refusal_of image c ≡ None → KeepsDeltas image (next_image image c)
unfolding next_image
deltas_kept image (Register name dc rack) h right none =
    let row : NodeRow = record { id = image.next; name = name; dc = dc; rack = rack; left = false } in
    keeps_all_deltas image (next_image image (Register name dc rack)) (on_same image.sequences h.sound.movements)
    (deltas_rows image (image.epoch + 1) (image.next + 1) (image.nodes ++ row ∷ []) (standing_rows image (row ∷ []) h.sound))
deltas_kept image (Unregister n) h right none =
    let nodes : List NodeRow = filter (λ (row : NodeRow). not (row.id == n)) image.nodes in
    keeps_all_deltas image (next_image image (Unregister n)) (on_same image.sequences h.sound.movements)
    (deltas_rows image (image.epoch + 1) image.next nodes (remaining_rows image n h.sound (early_accepted image (Unregister n) none)))
deltas_kept image (UnsafeJoin n tokens) h right none = idle_deltas image (next_image image (UnsafeJoin n tokens)) (unsafe_join_idle image n tokens (early_accepted image (UnsafeJoin n tokens) none))
deltas_kept image (Keyspace name replication) h right none = keeps_placed image (next_image image (Keyspace name replication)) (on_same image.sequences h.sound.movements) refl refl
deltas_kept image (DropKeyspace name) h right none = keeps_placed image (next_image image (DropKeyspace name)) (on_same image.sequences h.sound.movements) refl refl
deltas_kept image (PrepareJoin n tokens) h right none = begun_deltas image (PrepareJoin n tokens) (join_of n tokens) h right none refl
deltas_kept image (PrepareMove n t) h right none = begun_deltas image (PrepareMove n t) (move_of image.tokens n t) h right none refl
deltas_kept image (PrepareLeave n) h right none = begun_deltas image (PrepareLeave n) (leave_of image.tokens n) h right none refl
deltas_kept image (PrepareReplace n gone) h right none = begun_deltas image (PrepareReplace n gone) (replace_of image.tokens n gone) h right none refl
deltas_kept image (Step g kind n) h right none = step_deltas image g kind n h
deltas_kept image (Cancel n) h right none = cancel_deltas image n h
