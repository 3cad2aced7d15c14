-- A movement that goes on after an accepted command moves the same pairs.
use Rattle.std.proofs.Common.{◌≡◌, ◌+◌, Bool, true, ◌==◌, find, Some, None, refl}
use Rattle.std.specs.List.{AllByRecursion}
use Rattle.transformations.proofs.lists.ListLemmas.{all_found, found_passes}
use Rattle.transformations.proofs.movements.MovesOn.{MoveAlike, MoveOn, on_others, on_phase, on_put, on_same}
use Rattle.transformations.proofs.ranges.PreparedLemmas.{new_movement}
use Rattle.transformations.proofs.ranges.RangesKept.{cancel_by, finish_by}
use Rattle.transformations.specs.MovementDeltas.{MovesSame}
use Rattle.transformations.specs.History.{begun, is_command, next_image}
use Rattle.transformations.specs.Refusals.{prepared_by, refusal_of}
use Rattle.transformations.specs.Movements.{join_of, leave_of, move_of, movement_of, replace_of}
use Rattle.transformations.specs.Valid.{IsSound}
use Rattle.transformations.specs.declared.command.Command.{Command}
use Rattle.transformations.specs.declared.command.Command.TheVariants.{Register, Unregister, UnsafeJoin, Keyspace, DropKeyspace, PrepareJoin, PrepareMove, PrepareLeave, PrepareReplace, Step, Cancel}
use Rattle.transformations.specs.declared.image.Image.{Image}
use Rattle.transformations.specs.declared.sequence.Goal.TheVariants as goal
use Rattle.transformations.specs.declared.sequence.Phase.TheVariants.{Started, Mid}
use Rattle.transformations.specs.declared.sequence.SeqRow.{SeqRow}

abbrev Goes : Image → Image → Type 0
Goes image after = MoveOn image.sequences after.sequences

begun_goes : (image : Image) (c : Command) (j : SeqRow) → IsSound image → is_command c ≡ true → refusal_of image c ≡ None → prepared_by image.tokens c ≡ Some j → Goes image (begun image j)
begun_goes image c j h right none is = on_put j image.sequences (new_movement image c j h right none is) h.movements

moves_on : (image : Image) (c : Command) → IsSound image → is_command c ≡ true → refusal_of image c ≡ None → Goes image (next_image image c)
unfolding next_image
moves_on image (Register name dc rack) h right none = on_same image.sequences h.movements
moves_on image (Unregister n) h right none = on_same image.sequences h.movements
moves_on image (UnsafeJoin n tokens) h right none = on_same image.sequences h.movements
moves_on image (Keyspace name replication) h right none = on_same image.sequences h.movements
moves_on image (DropKeyspace name) h right none = on_same image.sequences h.movements
moves_on image (PrepareJoin n tokens) h right none = begun_goes image (PrepareJoin n tokens) (join_of n tokens) h right none refl
moves_on image (PrepareMove n t) h right none = begun_goes image (PrepareMove n t) (move_of image.tokens n t) h right none refl
moves_on image (PrepareLeave n) h right none = begun_goes image (PrepareLeave n) (leave_of image.tokens n) h right none refl
moves_on image (PrepareReplace n gone) h right none = begun_goes image (PrepareReplace n gone) (replace_of image.tokens n gone) h right none refl
moves_on image (Step goal.Start kind n) h right none = on_phase Started n image.sequences h.movements
moves_on image (Step goal.Mid kind n) h right none = on_phase Mid n image.sequences h.movements
moves_on image (Step goal.Finish kind n) h right none =
    finish_by (Goes image) image n (image.epoch + 1) (λ none. on_same image.sequences h.movements) (λ s found. on_others s.node image.sequences h.movements)
moves_on image (Cancel n) h right none =
    cancel_by (Goes image) image n (image.epoch + 1) (λ none. on_same image.sequences h.movements) (on_phase Started n image.sequences h.movements)
    (λ s found. on_others s.node image.sequences h.movements)

pub moves_kept : (image : Image) (c : Command) (s q : SeqRow) → IsSound image → is_command c ≡ true → refusal_of image c ≡ None
    → find (λ (p : SeqRow). p.node == s.node) image.sequences ≡ Some s → movement_of (next_image image c) s.node ≡ Some q → MovesSame s q
moves_kept image c s q h right none found on =
    let own : SeqRow → Bool = λ p. p.node == s.node in
    all_found (MoveAlike s) own (next_image image c).sequences q on
    (all_found (λ p. AllByRecursion (MoveAlike p) (next_image image c).sequences) own image.sequences s found (moves_on image c h right none))
    (found_passes own (next_image image c).sequences q on)
