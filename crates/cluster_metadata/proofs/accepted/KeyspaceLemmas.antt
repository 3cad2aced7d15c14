-- A keyspace that has a replication already.
use Rattle.std.proofs.Common.{◌≡◌, ℕ, ◌+◌, ◌<◌, Bool, true, false, not, filter, cond, List, [], ◌∷◌, find, option_map, Option, Some, None, refl, sym, ap, ◌∙◌, subst}
use Rattle.std.proofs.lemmas.Cmp.{nat_list_cmp_total, on_total}
use Rattle.std.proofs.lemmas.Option.{none-some}
use Rattle.std.proofs.lemmas.Slice.Eq.{bytes_eq-Decides}
use Rattle.std.specs.Cmp.{IsTotalOrder}
use Rattle.std.specs.List.{AllByRecursion}
use Rattle.std.specs.List.Sorted.{IsStrictlySortedBy}
use Rattle.std.specs.Ordering.{ordering_reverse}
use Rattle.std.specs.Str.{bytes_eq}
use Rattle.std.specs.declared.cmp.Ordering.{Ordering}
use Rattle.std.specs.declared.cmp.Ordering.TheVariants.{Less, Equal, Greater}
use Rattle.cluster_terms.specs.Ascending.{put}
use Rattle.cluster_terms.specs.declared.replication.Replication.{Replication}
use Rattle.transformations.proofs.lists.ListLemmas.{all_found}
use Rattle.transformations.proofs.histories.SoundLemmas.{sound_next}
use Rattle.transformations.proofs.histories.ValidLemmas.{valid_next}
use Rattle.transformations.specs.History.{most_epochs, next_image}
use Rattle.transformations.specs.Refusals.{early_refusal_of, first_overlap, keyspace_locked, keyspace_row, refusal_of, with_keyspace}
use Rattle.transformations.specs.Orders.{by_name}
use Rattle.transformations.specs.Rings.{reads_at, writes_at}
use Rattle.transformations.specs.Valid.{IsSound, IsValid}
use Rattle.transformations.specs.declared.command.Command.TheVariants.{DropKeyspace, Keyspace}
use Rattle.transformations.specs.declared.image.Image.{Image}
use Rattle.transformations.specs.declared.keyspace.KeyspaceRow.{KeyspaceRow}
use Rattle.cluster_metadata.proofs.locks.LockRefusals.{dropped_accepted, set_locked}
use Rattle.cluster_metadata.proofs.locks.RenewedLocks.{overlap_later}
use Rattle.cluster_metadata.specs.code.Change.{AreRenewed, BringsKeyspaces, IsChange, changed, rekeyed}
use Rattle.cluster_metadata.specs.code.MapSteps.{BringsMaps}
use Rattle.placement_maps.specs.code.ShownMaps.{AreMaps, IsMapOf}
use Rattle.placement_maps.specs.Served.{keyspace_of}
use Rattle.cluster_metadata.specs.declared.changes.change.Change.{Change}
use Rattle.cluster_metadata.specs.declared.changes.change.Change.TheVariants.{Keyspaces, Unchanged}
use Rattle.cluster_metadata.specs.declared.movements.renewing.Renewed.{Renewed}
use Rattle.placement_maps.specs.declared.map_change.MapChange.TheVariants.{Keep}
use Rattle.range_placements.specs.declared.map_row.MapRow.{MapRow}

by_name_total : IsTotalOrder by_name
by_name_total = on_total (λ (k : KeyspaceRow). k.name) nat_list_cmp_total

equal_itself : (k : KeyspaceRow) → by_name k k ≡ Equal
equal_itself k = by (by_name k k) refl
  where
    by : (o : Ordering) → by_name k k ≡ o → by_name k k ≡ Equal
    by Equal e = e
    by Less e = (let less : Less ≡ Greater = sym e ∙ by_name_total.antisymm k k ∙ ap ordering_reverse e in cc less)
    by Greater e = (let more : Greater ≡ Less = sym e ∙ by_name_total.antisymm k k ∙ ap ordering_reverse e in cc more)

found_name : (rows : List KeyspaceRow) (name : List ℕ) (k : KeyspaceRow) → find (λ row. bytes_eq row.name name) rows ≡ Some k → k.name ≡ name
found_name [] name k found = absurd (none-some k found)
found_name (row ∷ rows) name k found = by (found_name rows name k) (bytes_eq row.name name) refl found
  where
    by : (find (λ row. bytes_eq row.name name) rows ≡ Some k → k.name ≡ name) → (b : Bool) → bytes_eq row.name name ≡ b → cond b (Some row) (find (λ row. bytes_eq row.name name) rows) ≡ Some k → k.name ≡ name
    by later true own found = (let same : row ≡ k = cc found in ap (λ (r : KeyspaceRow). r.name) (sym same) ∙ (bytes_eq-Decides row.name name).0 own)
    by later false other found = later found

-- a keyspace that is found by its name, put into the list once more
put_found : (rows : List KeyspaceRow) (name : List ℕ) (k : KeyspaceRow) → IsStrictlySortedBy by_name rows → find (λ row. bytes_eq row.name name) rows ≡ Some k → put by_name k rows ≡ rows
unfolding IsStrictlySortedBy
put_found [] name k up found = absurd (none-some k found)
put_found (row ∷ rows) name k up found = by (bytes_eq row.name name) refl found (put_found rows name k up.1)
  where
    by : (b : Bool) → bytes_eq row.name name ≡ b → cond b (Some row) (find (λ row. bytes_eq row.name name) rows) ≡ Some k
        → (find (λ row. bytes_eq row.name name) rows ≡ Some k → put by_name k rows ≡ rows) → put by_name k (row ∷ rows) ≡ row ∷ rows
    by true own found rest =
        let same : row ≡ k = cc found in
        let tie : by_name k row ≡ Equal = ap (by_name k) same ∙ equal_itself k in
        rw tie (ap (λ r. r ∷ rows) (sym same))
    by false other found rest =
        let less : by_name row k ≡ Less = all_found (λ r. by_name row r ≡ Less) (λ (r : KeyspaceRow). bytes_eq r.name name) rows k found up.0 in
        let more : by_name k row ≡ Greater = by_name_total.antisymm k row ∙ ap ordering_reverse less in
        rw more (ap (λ l. row ∷ l) (rest found))

-- the command that gives a keyspace the replication that it has changes the epoch alone
pub unchanged_keyspace : (image : Image) (name : List ℕ) (r : Replication) → IsSound image → option_map (λ (row : KeyspaceRow). row.replication) (keyspace_of image name) ≡ Some r → IsChange image (Keyspace name r) Unchanged
unfolding next_image
unchanged_keyspace image name r sound has = by (keyspace_of image name) refl has
  where
    by : (found : Option KeyspaceRow) → keyspace_of image name ≡ found → option_map (λ (row : KeyspaceRow). row.replication) found ≡ Some r → IsChange image (Keyspace name r) Unchanged
    by None is has = absurd (none-some r has)
    by (Some k) is has = record {
      made = ap (λ (ks : List KeyspaceRow). record image { epoch = image.epoch + 1; keyspaces = ks }) (sym (ap (λ row. put by_name row image.keyspaces) own ∙ put_found image.keyspaces name k sound.keyspaces is));
      nodes = tt;
      follows = tt;
      plan = tt;
      suits = tt;
    }
      where
        row : KeyspaceRow
        row = record { name = name; replication = r }

        own : row ≡ k
        own =
            let names : name ≡ k.name = sym (found_name image.keyspaces name k is) in
            let rs : r ≡ k.replication = cc has in
            λ i. record { name = names i; replication = rs i }

-- the maps stay where the epoch alone changes
pub unchanged_maps : (image : Image) (change : Change) → change ≡ Unchanged → BringsMaps image change Keep
unfolding reads_at writes_at
unchanged_maps image change is book are = subst (λ c. AreMaps (changed image c) book) (sym is) (record { replications = are.replications; placements = each book are.placements })
  where
    each : (book : List MapRow) → AllByRecursion (IsMapOf image) book → AllByRecursion (IsMapOf (changed image Unchanged)) book
    each [] all = tt
    each (row ∷ book) all = ((all.0.0, all.0.1), each book all.1)

-- ---- new keyspaces

-- the change to the keyspaces of a command that sets one
pub sets_keyspace : (image : Image) (name : List ℕ) (r : Replication) (rows : List KeyspaceRow) (change : Change) → rows ≡ put by_name (keyspace_row name r) image.keyspaces → BringsKeyspaces image rows change → IsChange image (Keyspace name r) change
unfolding next_image
sets_keyspace image name r rows (Keyspaces keyspaces renewed) same brings = record {
  made = ap (rekeyed image) (brings.0 ∙ same);
  nodes = tt;
  follows = brings.1.rows;
  plan = brings.1;
  suits = tt;
}
sets_keyspace image name r rows _ same brings = absurd brings

-- and of one that drops one
pub drops_keyspace : (image : Image) (name : List ℕ) (rows : List KeyspaceRow) (renewed : Renewed) → rows ≡ filter (λ row. not (bytes_eq row.name name)) image.keyspaces → AreRenewed (rekeyed image rows) renewed → IsChange image (DropKeyspace name) (Keyspaces rows renewed)
unfolding next_image
drops_keyspace image name rows renewed same are = record {
  made = ap (rekeyed image) same;
  nodes = tt;
  follows = are.rows;
  plan = are;
  suits = tt;
}

-- the image with these keyspaces is sound, and the first overlap of its movements is the refusal
module _ (image : Image) (name : List ℕ) (r : Replication) (rows : List KeyspaceRow) (same : rows ≡ put by_name (keyspace_row name r) image.keyspaces) (early : early_refusal_of image (Keyspace name r) ≡ None) where
  pub set_sound : IsSound image → image.epoch < most_epochs → IsSound (rekeyed image rows)
  unfolding next_image
  set_sound sound below_limit = subst (λ ks. IsSound (rekeyed image ks)) (sym same) (sound_next image (Keyspace name r) sound refl early below_limit)

  pub set_refused : first_overlap (rekeyed image rows) image.sequences ≡ refusal_of image (Keyspace name r)
  unfolding keyspace_locked
  set_refused =
      ap (λ ks. first_overlap (rekeyed image ks) image.sequences) same ∙ overlap_later (with_keyspace image (keyspace_row name r)) (image.epoch + 1) image.sequences
      ∙ set_locked image name r early

-- without movements none overlap
pub idle_accepted : (image : Image) (name : List ℕ) (r : Replication) → early_refusal_of image (Keyspace name r) ≡ None → image.sequences ≡ [] → refusal_of image (Keyspace name r) ≡ None
unfolding keyspace_locked
idle_accepted image name r early idle = sym (set_locked image name r early) ∙ ap (first_overlap (with_keyspace image (keyspace_row name r))) idle

pub drop_valid : (image : Image) (name : List ℕ) (rows : List KeyspaceRow) → rows ≡ filter (λ row. not (bytes_eq row.name name)) image.keyspaces → early_refusal_of image (DropKeyspace name) ≡ None → IsValid image → image.epoch < most_epochs → IsValid (rekeyed image rows)
unfolding next_image
drop_valid image name rows same early valid below_limit =
    subst (λ ks. IsValid (rekeyed image ks)) (sym same) (valid_next image (DropKeyspace name) valid refl (dropped_accepted image name early) below_limit)
