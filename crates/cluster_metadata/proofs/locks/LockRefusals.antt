-- The refusal of a command from its early refusal and from the locks of movements.
use Rattle.std.proofs.Common.{◌≡◌, false, true≢false, ℕ, List, [], ◌∷◌, Option, Some, None, option_and_then, refl, sym, ap, ◌∙◌}
use Rattle.std.proofs.lemmas.Option.{none-some}
use Rattle.cluster_terms.specs.declared.replication.Replication.{Replication}
use Rattle.transformations.specs.Refusals.{early_refusal_of, first_of, keyspace_locked, keyspace_row, locked, locks_overlap, prepared_by, ranges_locked, refusal_of, with_movement}
use Rattle.transformations.specs.declared.command.Command.{Command}
use Rattle.transformations.specs.declared.command.Command.TheVariants.{Register, Unregister, UnsafeJoin, Keyspace, DropKeyspace, PrepareJoin, PrepareMove, PrepareLeave, PrepareReplace, Step, Cancel}
use Rattle.transformations.specs.declared.image.Image.{Image}
use Rattle.transformations.specs.declared.refusal.Refusal.{Refusal}
use Rattle.transformations.specs.declared.sequence.SeqRow.{SeqRow}
use Rattle.cluster_metadata.specs.code.Change.{is_on_keyspaces}

first_alone : (r : Option Refusal) → first_of (r ∷ []) ≡ r
first_alone None = refl
first_alone (Some r) = refl

-- an early refusal comes first
pub early_first : (image : Image) (c : Command) (r : Refusal) → early_refusal_of image c ≡ Some r → refusal_of image c ≡ Some r
unfolding refusal_of
early_first image c r early = ap (λ (o : Option Refusal). first_of (o ∷ ranges_locked image c ∷ locks_overlap image c ∷ [])) early

after_early : (image : Image) (c : Command) → early_refusal_of image c ≡ None → refusal_of image c ≡ first_of (ranges_locked image c ∷ locks_overlap image c ∷ [])
unfolding refusal_of
after_early image c early = ap (λ (o : Option Refusal). first_of (o ∷ ranges_locked image c ∷ locks_overlap image c ∷ [])) early

-- a command that prepares a movement sets no keyspace
none_overlap : (image : Image) (c : Command) (row : SeqRow) → prepared_by image.tokens c ≡ Some row → locks_overlap image c ≡ None
none_overlap image (Keyspace name r) row prepares = absurd (none-some row prepares)
none_overlap image (Register name dc rack) row prepares = refl
none_overlap image (Unregister n) row prepares = refl
none_overlap image (UnsafeJoin n tokens) row prepares = refl
none_overlap image (DropKeyspace name) row prepares = refl
none_overlap image (PrepareJoin n tokens) row prepares = refl
none_overlap image (PrepareMove n t) row prepares = refl
none_overlap image (PrepareLeave n) row prepares = refl
none_overlap image (PrepareReplace n gone) row prepares = refl
none_overlap image (Step g kind n) row prepares = refl
none_overlap image (Cancel n) row prepares = refl

-- nor does one that is not on keyspaces
none_set : (image : Image) (c : Command) → is_on_keyspaces c ≡ false → locks_overlap image c ≡ None
none_set image (Keyspace name r) other = absurd (true≢false other)
none_set image (Register name dc rack) other = refl
none_set image (Unregister n) other = refl
none_set image (UnsafeJoin n tokens) other = refl
none_set image (DropKeyspace name) other = refl
none_set image (PrepareJoin n tokens) other = refl
none_set image (PrepareMove n t) other = refl
none_set image (PrepareLeave n) other = refl
none_set image (PrepareReplace n gone) other = refl
none_set image (Step g kind n) other = refl
none_set image (Cancel n) other = refl

pub off_keyspaces : (c : Command) → ((name : List ℕ) (r : Replication) → c ≡ Keyspace name r → ⊥) → ((name : List ℕ) → c ≡ DropKeyspace name → ⊥) → is_on_keyspaces c ≡ false
off_keyspaces (Keyspace name r) sets drops = absurd (sets name r refl)
off_keyspaces (DropKeyspace name) sets drops = absurd (drops name refl)
off_keyspaces (Register name dc rack) sets drops = refl
off_keyspaces (Unregister n) sets drops = refl
off_keyspaces (UnsafeJoin n tokens) sets drops = refl
off_keyspaces (PrepareJoin n tokens) sets drops = refl
off_keyspaces (PrepareMove n t) sets drops = refl
off_keyspaces (PrepareLeave n) sets drops = refl
off_keyspaces (PrepareReplace n gone) sets drops = refl
off_keyspaces (Step g kind n) sets drops = refl
off_keyspaces (Cancel n) sets drops = refl

-- where a command prepares no movement and is not on keyspaces, no other refusal comes
pub none_later : (image : Image) (c : Command) → prepared_by image.tokens c ≡ None → is_on_keyspaces c ≡ false → early_refusal_of image c ≡ None → refusal_of image c ≡ None
none_later image c prepares other early =
    let none : ranges_locked image c ≡ None = ap (option_and_then (λ (s : SeqRow). locked (with_movement image s) s)) prepares in
    after_early image c early ∙ (λ i. first_of (none i ∷ none_set image c other i ∷ []))

-- if it prepares one, that of the locks of the movement does
pub prepared_locked : (image : Image) (c : Command) (row : SeqRow) → early_refusal_of image c ≡ None → prepared_by image.tokens c ≡ Some row → locked (with_movement image row) row ≡ refusal_of image c
prepared_locked image c row early prepares =
    let own : ranges_locked image c ≡ locked (with_movement image row) row = ap (option_and_then (λ (s : SeqRow). locked (with_movement image s) s)) prepares in
    sym (after_early image c early ∙ (λ i. first_of (own i ∷ none_overlap image c row prepares i ∷ [])) ∙ first_two (locked (with_movement image row) row))
  where
    first_two : (r : Option Refusal) → first_of (r ∷ None ∷ []) ≡ r
    first_two None = refl
    first_two (Some r) = refl

-- if it sets a keyspace, that of all locks does
pub set_locked : (image : Image) (name : List ℕ) (r : Replication) → early_refusal_of image (Keyspace name r) ≡ None → keyspace_locked image (keyspace_row name r) ≡ refusal_of image (Keyspace name r)
set_locked image name r early = sym (after_early image (Keyspace name r) early ∙ first_alone (keyspace_locked image (keyspace_row name r)))

-- if it drops one, none does
pub dropped_accepted : (image : Image) (name : List ℕ) → early_refusal_of image (DropKeyspace name) ≡ None → refusal_of image (DropKeyspace name) ≡ None
dropped_accepted image name early = after_early image (DropKeyspace name) early
