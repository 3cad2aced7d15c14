-- The books of placement maps: the map of a replication, and books that grow by one map.
use Rattle.std.proofs.Common.{◌≡◌, ℕ, ◌-◌, ◌*◌, ◌^◌, ◌≤◌, ℤ, ◌≤ℤ◌, Bool, true, false, cond, ◌||◌, List, [], ◌∷◌, length, map, find, Option, Some, None, option_map, refl, sym, ap, ◌∙◌, subst, arith}
use Rattle.std.specs.List.{AllByRecursion, list_any}
use Rattle.std.specs.List.Sorted.{IsPermutation}
use Rattle.std.specs.Ordering.{nat_cmp}
use Rattle.std.specs.Str.{bytes_eq}
use Rattle.cluster_terms.proofs.placement.PlacementLemmas.{place-permuted}
use Rattle.cluster_terms.proofs.texts.ReplicationLemmas.{same_replication-exact, same_replication-refl}
use Rattle.cluster_terms.specs.Arc.{greatest_token}
use Rattle.cluster_terms.specs.Ascending.{put_all}
use Rattle.cluster_terms.specs.Group.{place}
use Rattle.cluster_terms.specs.Replication.{groups_of, same_replication}
use Rattle.cluster_terms.specs.Row.{last_token, rows_between}
use Rattle.cluster_terms.specs.declared.node.NodeRow.{NodeRow}
use Rattle.cluster_terms.specs.declared.replication.Replication.{Replication}
use Rattle.cluster_terms.specs.declared.row.TokenRange.{TokenRange}
use Rattle.cluster_terms.specs.declared.token.Pair.{Pair}
use Rattle.range_placements.specs.Placements.{map_at}
use Rattle.range_placements.specs.declared.placement_row.PlacementRow.{PlacementRow}
use Rattle.replica_placer.specs.Placers.{PlacesOn, placed_by}
use Rattle.replica_placer.specs.declared.placer.Placer.{Placer}
use Rattle.transformations.specs.Rings.{cuts, high_ring, low_ring, read_ring, reads_at, writes_at}
use Rattle.transformations.specs.declared.image.Image.{Image}
use Rattle.transformations.specs.declared.keyspace.KeyspaceRow.{KeyspaceRow}
use Rattle.placement_maps.proofs.ImageMaps.{served_at, some_row}
use Rattle.placement_deltas.proofs.ReplicationsLemmas.{any_replications}
use Rattle.placement_maps.specs.code.MapBasis.{AreRings, PlaceOnRings, row_placed}
use Rattle.placement_maps.specs.Maps.{placement_row, placement_rows}
use Rattle.placement_maps.specs.code.ShownMaps.{AreMaps, IsMapOf}
use Rattle.placement_maps.specs.Served.{keyspace_of, served, served_by}
use Rattle.range_placements.specs.declared.map_row.MapRow.{MapRow}
use Rattle.placement_maps.specs.declared.placers.Placers.{Placers}
use Rattle.placement_maps.specs.declared.image_rings.Rings.{Rings}

-- ---- rows that are placed

map_same : {X Y : Type 0} (f g : X → Y) → ((x : X) → f x ≡ g x) → (xs : List X) → map f xs ≡ map g xs
map_same f g same [] = refl
map_same f g same (x ∷ xs) = λ i. same x i ∷ map_same f g same xs i

module _ (image : Image) (rings : Rings) (nodes : List NodeRow) (r : Replication) (placers : Placers) (are : AreRings image rings) (is : nodes ≡ image.nodes)
    (on : PlaceOnRings rings nodes r placers) where
  placed_on : (placer : Placer) (ring made : List Pair) → IsPermutation ring made → PlacesOn made nodes r placer → (x : ℤ) → placed_by placer x ≡ place (groups_of image.nodes r) x ring
  placed_on placer ring made moved places x =
      places x ∙ ap (λ rows. place (groups_of rows r) x made) is ∙ sym (place-permuted ring made moved x (groups_of image.nodes r))

  row_same : (range : TokenRange) → row_placed placers range ≡ placement_row image r range
  unfolding reads_at writes_at
  row_same range =
      let x = last_token range.right in
      let low = placed_on placers.low (low_ring image) rings.low are.low on.low x in
      let read = placed_on placers.read (read_ring image) rings.read are.read on.read x in
      let high = placed_on placers.high (high_ring image) rings.high are.high on.high x in
      λ i. record { right = range.right; reads = read i; writes = put_all nat_cmp (low i) (high i) }

  -- the rows that the placers of a replication place are its map
  pub placed_rows : (ranges : List TokenRange) → ranges ≡ rows_between (cuts image) → map (row_placed placers) ranges ≡ placement_rows image r
  placed_rows ranges ends = map_same (row_placed placers) (placement_row image r) row_same ranges ∙ ap (map (placement_row image r)) ends

-- ---- a book of the first keyspaces

pub any_row : (r : Replication) (book : List MapRow) → list_any (λ (row : MapRow). same_replication row.replication r) book ≡ list_any (λ q. same_replication q r) (map (λ (row : MapRow). row.replication) book)
any_row r [] = refl
any_row r (row ∷ book) = ap (λ b. same_replication row.replication r || b) (any_row r book)

-- ---- the map of a replication

find_map : (image : Image) (r : Replication) (book : List MapRow) → AllByRecursion (IsMapOf image) book
    → list_any (λ (row : MapRow). same_replication row.replication r) book ≡ true → option_map (λ (row : MapRow). row.map) (find (λ row. same_replication row.replication r) book) ≡ Some (placement_rows image r)
find_map image r [] all has = cc
find_map image r (row ∷ book) all has = by (same_replication row.replication r) refl has (find_map image r book all.1)
  where
    by : (b : Bool) → same_replication row.replication r ≡ b → (b || list_any (λ (m : MapRow). same_replication m.replication r) book) ≡ true
        → (list_any (λ (m : MapRow). same_replication m.replication r) book ≡ true → option_map (λ (m : MapRow). m.map) (find (λ m. same_replication m.replication r) book) ≡ Some (placement_rows image r))
        → option_map (λ (m : MapRow). m.map) (cond b (Some row) (find (λ m. same_replication m.replication r) book)) ≡ Some (placement_rows image r)
    by true e has rest = ap (λ l. Some l) (all.0.0 ∙ ap (placement_rows image) (same_replication-exact row.replication r e))
    by false e has rest = rest has

-- a keyspace that is found has its map in the book
has_own : (name : List ℕ) (ks : List KeyspaceRow) (k : KeyspaceRow) → find (λ row. bytes_eq row.name name) ks ≡ Some k → list_any (λ (q : KeyspaceRow). same_replication q.replication k.replication) ks ≡ true
has_own name [] k found = cc
has_own name (q ∷ ks) k found = by (bytes_eq q.name name) found (has_own name ks k)
  where
    or_true : (b : Bool) → (b || true) ≡ true
    or_true true = refl
    or_true false = refl

    by : (b : Bool) → cond b (Some q) (find (λ row. bytes_eq row.name name) ks) ≡ Some k
        → (find (λ row. bytes_eq row.name name) ks ≡ Some k → list_any (λ (p : KeyspaceRow). same_replication p.replication k.replication) ks ≡ true)
        → (same_replication q.replication k.replication || list_any (λ (p : KeyspaceRow). same_replication p.replication k.replication) ks) ≡ true
    by true found rest =
        let same : q ≡ k = cc in
        let own : same_replication q.replication k.replication ≡ true = ap (λ (p : KeyspaceRow). same_replication q.replication p.replication) (sym same) ∙ same_replication-refl q.replication in
        ap (λ b. b || list_any (λ (p : KeyspaceRow). same_replication p.replication k.replication) ks) own
    by false found rest = ap (λ b. same_replication q.replication k.replication || b) (rest found) ∙ or_true (same_replication q.replication k.replication)

pub map_found : (image : Image) (book : List MapRow) (name : List ℕ) (k : KeyspaceRow) → AreMaps image book → keyspace_of image name ≡ Some k
    → option_map (λ (row : MapRow). row.map) (find (λ row. same_replication row.replication k.replication) book) ≡ Some (placement_rows image k.replication)
map_found image book name k are found =
    find_map image k.replication book are.placements
    (any_row k.replication book ∙ ap (list_any (λ q. same_replication q k.replication)) are.replications
    ∙ any_replications (λ q. same_replication q k.replication) image.keyspaces ∙ has_own name image.keyspaces k found)

-- ---- what is served from a map

abbrev pub IsMapFor : Image → List ℕ → List PlacementRow → Type 0
IsMapFor image name rows = Some rows ≡ option_map (λ (k : KeyspaceRow). placement_rows image k.replication) (keyspace_of image name)

pub served_found : (image : Image) (name : List ℕ) (x : ℤ) (rows : List PlacementRow) → x ≤ℤ greatest_token → IsMapFor image name rows → Some (map_at rows x) ≡ served image name x
served_found image name x rows le found = by (keyspace_of image name) found
  where
    by : (o : Option KeyspaceRow) → Some rows ≡ option_map (λ (k : KeyspaceRow). placement_rows image k.replication) o
        → Some (map_at rows x) ≡ option_map (λ (k : KeyspaceRow). served_by image x k.replication) o
    by None found = cc
    by (Some k) found =
        let same : rows ≡ placement_rows image k.replication = cc found in
        ap (λ (p : List ℕ × List ℕ). Some p) (ap (λ l. map_at l x) same ∙ served_at image k.replication x le)

pub few_found : (image : Image) (name : List ℕ) (x : ℤ) (rows : List PlacementRow) → x ≤ℤ greatest_token → ((r : Replication) (y : ℤ) → length (writes_at image r y) ≤ 1024) → IsMapFor image name rows
    → length (map_at rows x).1 ≤ 1024
few_found image name x rows le few found = by (keyspace_of image name) found
  where
    by : (o : Option KeyspaceRow) → Some rows ≡ option_map (λ (k : KeyspaceRow). placement_rows image k.replication) o → length (map_at rows x).1 ≤ 1024
    by None found = cc
    by (Some k) found =
        let same : rows ≡ placement_rows image k.replication = cc found in
        subst (λ (p : List ℕ × List ℕ). length p.1 ≤ 1024) (sym (ap (λ l. map_at l x) same ∙ served_at image k.replication x le)) (few k.replication x)

-- no step costs less than the search in any map
pub no_step : (image : Image) (steps : ℕ) → 2 ^ (steps - steps) ≤ 2 * length (rows_between (cuts image))
no_step image steps =
    let some = some_row image in
    let none : steps - steps ≡ 0 = omega arith in
    rw none (omega arith)
