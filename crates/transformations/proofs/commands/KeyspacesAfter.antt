-- The keyspaces after a command: those that it neither sets nor drops stay.
use Rattle.std.proofs.Common.{◌≡◌, ℕ, false, not, Option, Some, None, refl, sym, ap, ◌∙◌, subst}
use Rattle.std.proofs.lemmas.Cmp.{nat_list_eq_equiv}
use Rattle.std.proofs.lemmas.Map.Text.{is_eq-slice_cmp}
use Rattle.std.specs.List.{Contains}
use Rattle.std.specs.Str.{bytes_eq}
use Rattle.transformations.proofs.lists.ContainsLemmas.{contains_filter, contains_put}
use Rattle.transformations.specs.History.{changes_keyspace, next_image}
use Rattle.transformations.specs.Movements.{finished, movement_of, stepped}
use Rattle.transformations.specs.Orders.{by_name}
use Rattle.transformations.specs.Refusals.{keyspace_row}
use Rattle.transformations.specs.declared.command.Command.{Command}
use Rattle.transformations.specs.declared.command.Command.TheVariants.{Register, Unregister, UnsafeJoin, Keyspace, DropKeyspace, PrepareJoin, PrepareMove, PrepareLeave, PrepareReplace, Step, Cancel}
use Rattle.transformations.specs.declared.image.Image.{Image}
use Rattle.transformations.specs.declared.keyspace.KeyspaceRow.{KeyspaceRow}
use Rattle.transformations.specs.declared.sequence.Goal.{Goal}
use Rattle.transformations.specs.declared.sequence.Goal.TheVariants as goal
use Rattle.transformations.specs.declared.sequence.SeqRow.{SeqRow}

-- a step leaves the keyspaces
pub keyspaces_stepped : (image : Image) (g : Goal) (n : ℕ) → (stepped image g n).keyspaces ≡ image.keyspaces
keyspaces_stepped image goal.Start n = refl
keyspaces_stepped image goal.Mid n = refl
keyspaces_stepped image goal.Finish n = by (movement_of image n)
  where
    by : (o : Option SeqRow) → (finished image o).keyspaces ≡ image.keyspaces
    by None = refl
    by (Some s) = refl

pub keyspace_stays : (image : Image) (c : Command) (k : KeyspaceRow) → Contains image.keyspaces k → changes_keyspace k.name c ≡ false → Contains (next_image image c).keyspaces k
unfolding next_image
keyspace_stays image (Keyspace name replication) k there other = contains_put by_name (keyspace_row name replication) image.keyspaces k there (is_eq-slice_cmp name k.name ∙ other)
keyspace_stays image (DropKeyspace name) k there other =
    contains_filter (λ (row : KeyspaceRow). not (bytes_eq row.name name)) image.keyspaces k there (ap not (nat_list_eq_equiv.symm k.name name ∙ other))
keyspace_stays image (Register name dc rack) k there other = there
keyspace_stays image (Unregister node) k there other = there
keyspace_stays image (UnsafeJoin node tokens) k there other = there
keyspace_stays image (PrepareJoin node tokens) k there other = there
keyspace_stays image (PrepareMove node t) k there other = there
keyspace_stays image (PrepareLeave node) k there other = there
keyspace_stays image (PrepareReplace node gone) k there other = there
keyspace_stays image (Step g kind node) k there other = subst (λ ks. Contains ks k) (sym (keyspaces_stepped image g node)) there
keyspace_stays image (Cancel node) k there other = there
