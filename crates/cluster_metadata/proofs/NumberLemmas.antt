-- Metadata whose epoch and next id change alone.
use Rattle.std.proofs.Common.{◌≡◌, ℕ, true, IsTrue, List, [], ◌∷◌, length, arith, refl, subst, sym, ap, ◌∙◌}
use Rattle.std.proofs.lemmas.Slice.Eq.{bytes_eq-Decides}
use Rattle.std.specs.List.{AllByRecursion}
use Rattle.std.specs.Str.{bytes_eq}
use Rattle.cluster_terms.proofs.texts.ReplicationLemmas.{same_replication-exact}
use Rattle.cluster_terms.specs.Replication.{same_replication}
use Rattle.cluster_terms.specs.declared.replication.Replication.{Replication}
use Rattle.node_directory.specs.Directory.{Registry, is_directory}
use Rattle.range_placements.specs.declared.map_row.MapRow.{MapRow}
use Rattle.token_ring.specs.declared.range_book.LockRow.{LockRow}
use Rattle.sequence_plans.specs.Locks.{AreLocksOf}
use Rattle.transformations.specs.Meeting.{HaveReplications}
use Rattle.transformations.specs.Rings.{reads_at, writes_at}
use Rattle.transformations.specs.Valid.{IsValid}
use Rattle.transformations.specs.declared.image.Image.{Image}
use Rattle.transformations.specs.declared.sequence.SeqRow.{SeqRow}
use Rattle.transformations.specs.declared.keyspace.KeyspaceRow.{KeyspaceRow}
use Rattle.cluster_metadata.specs.Metadata.{directory_of}
use Rattle.cluster_metadata.specs.code.MetadataParts.{DiffersInNumbers, IsMetadata}
use Rattle.placement_maps.specs.Maps.{placement_rows}
use Rattle.placement_maps.specs.code.ShownMaps.{IsMapOf}
use Rattle.cluster_metadata.specs.code.Running.{HaveDeltas, IsRunning}
use Rattle.cluster_metadata.specs.declared.movements.running.Running.{Running}

pub same_keyspace : (row other : KeyspaceRow) (name name' : List ℕ) → name ≡ row.name → name' ≡ other.name → bytes_eq name name' ≡ true → same_replication row.replication other.replication ≡ true → row ≡ other
same_keyspace row other name name' is is' named replicated = λ i. record {
  name = (sym is ∙ (bytes_eq-Decides name name').0 named ∙ is') i;
  replication = same_replication-exact row.replication other.replication replicated i;
}

pub differ : (image other : Image) → image.sequences ≡ [] → other.sequences ≡ [] → image.tokens ≡ other.tokens → image.keyspaces ≡ other.keyspaces → image.nodes ≡ other.nodes → DiffersInNumbers image other
differ image other none none' tokens keyspaces nodes = record {
  idle = none;
  rest = λ i. record {
    epoch = other.epoch;
    next = other.next;
    nodes = sym nodes i;
    tokens = sym tokens i;
    keyspaces = sym keyspaces i;
    sequences = (none' ∙ sym none) i;
  };
}

pub fits : (image other : Image) (dir odir : Registry) (next : ℕ) → DiffersInNumbers image other → dir ≡ directory_of image → odir ≡ directory_of other → next ≡ odir.next
    → IsTrue (is_directory 0 odir.rows odir.next) → IsTrue (is_directory 0 dir.rows next)
fits image other dir odir next differs is is' at valid =
    let rows : odir.rows ≡ dir.rows = ap (λ (d : Registry). d.rows) is' ∙ ap (λ (i : Image). i.nodes) differs.rest ∙ sym (ap (λ (d : Registry). d.rows) is) in
    subst (λ n. IsTrue (is_directory 0 dir.rows n)) (sym at) (subst (λ rows. IsTrue (is_directory 0 rows odir.next)) rows valid)

module _ (image other : Image) (differs : DiffersInNumbers image other) where
  abbrev with_numbers : Image
  with_numbers = record image { epoch = other.epoch; next = other.next }

  -- placements depend on neither number
  same_rows : (r : Replication) → placement_rows image r ≡ placement_rows with_numbers r
  unfolding reads_at writes_at
  same_rows r = refl

  maps_stay : (book : List MapRow) → AllByRecursion (IsMapOf image) book → AllByRecursion (IsMapOf with_numbers) book
  maps_stay [] all = tt
  maps_stay (row ∷ book) all = ((all.0.0 ∙ same_rows row.replication, all.0.1), maps_stay book all.1)

  -- without a movement there is neither a value nor a lock of a movement
  no_values : (values : List Running) → IsRunning image.sequences values → HaveDeltas with_numbers values
  no_values [] is = tt
  no_values (value ∷ values) is = absurd (omega (arith, ap length is, ap length differs.idle))

  no_locks : (table : List LockRow) → AreLocksOf image image.sequences table → AreLocksOf with_numbers image.sequences table
  no_locks table are = by image.sequences differs.idle table are
    where
      by : (sequences : List SeqRow) → sequences ≡ [] → (table : List LockRow) → AreLocksOf image sequences table → AreLocksOf with_numbers sequences table
      by [] none [] are = tt
      by [] none (row ∷ table) are = absurd are
      by (s ∷ sequences) none table are = absurd (omega (arith, ap length none))

  pub renumbered : (dir dir' : Registry) (book : List MapRow) (values : List Running) (table : List LockRow) → IsValid other → HaveReplications other → IsMetadata image dir book values table
      → dir' ≡ record { rows = dir.rows; next = other.next } → IsMetadata with_numbers dir' book values table
  renumbered dir dir' book values table valid replications held is = record {
    valid = subst IsValid differs.rest valid;
    replications = subst HaveReplications differs.rest replications;
    directory = is ∙ ap (λ (d : Registry). record { rows = d.rows; next = other.next }) held.directory;
    maps = record { replications = held.maps.replications; placements = maps_stay book held.maps.placements };
    running = held.running;
    deltas = no_values values held.running;
    locks = no_locks table held.locks;
  }
