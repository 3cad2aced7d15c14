-- An image has one book of maps, and a book of deltas has as many rows.
use Rattle.std.proofs.Common.{◌≡◌, ℕ, ℤ, List, [], ◌∷◌, length, map, refl, sym, ap, ◌∙◌}
use Rattle.std.proofs.lemmas.List.{length-map}
use Rattle.std.specs.List.{AllByRecursion}
use Rattle.cluster_terms.specs.declared.replication.Replication.{Replication}
use Rattle.placement_deltas.specs.declared.delta_book.DeltaBookRow.{DeltaBookRow}
use Rattle.placement_deltas.specs.ExactDeltas.{AreDeltas}
use Rattle.placement_deltas.specs.Replications.{replications_of}
use Rattle.transformations.specs.declared.image.Image.{Image}
use Rattle.placement_maps.specs.Maps.{placement_rows}
use Rattle.placement_maps.specs.code.ShownMaps.{AreMaps, IsMapOf}
use Rattle.range_placements.specs.declared.map_row.MapRow.{MapRow}

one_book : (image : Image) (rs : List Replication) (one other : List MapRow) → map (λ (row : MapRow). row.replication) one ≡ rs → map (λ (row : MapRow). row.replication) other ≡ rs
    → AllByRecursion (IsMapOf image) one → AllByRecursion (IsMapOf image) other → one ≡ other
one_book image rs [] [] mine theirs have has = refl
one_book image [] (row ∷ one) [] mine theirs have has = cc mine
one_book image (r ∷ rs) (row ∷ one) [] mine theirs have has = cc theirs
one_book image [] [] (row ∷ other) mine theirs have has = cc theirs
one_book image (r ∷ rs) [] (row ∷ other) mine theirs have has = cc mine
one_book image [] (row ∷ one) (next ∷ other) mine theirs have has = cc mine
one_book image (r ∷ rs) (row ∷ one) (next ∷ other) mine theirs have has =
    let under : row.replication ≡ next.replication = cc (mine, theirs) in
    let placed : row.map ≡ next.map = have.0.0 ∙ ap (placement_rows image) under ∙ sym has.0.0 in
    let rest = one_book image rs one other (cc mine) (cc theirs) have.1 has.1 in
    λ i. (record { replication = under i; map = placed i }) ∷ rest i

pub same_book : (image : Image) (one other : List MapRow) → AreMaps image one → AreMaps image other → one ≡ other
same_book image one other mine theirs = one_book image (replications_of image.keyspaces) one other mine.replications theirs.replications mine.placements theirs.placements

-- as many deltas as maps
pub same_count : (image : Image) (book : List MapRow) (deltas : List DeltaBookRow) (gained lost : Replication → ℤ → List ℕ) → AreMaps image book → AreDeltas (replications_of image.keyspaces) gained lost deltas → length book ≡ length deltas
same_count image book deltas gained lost are exact =
    sym (length-map book (λ (row : MapRow). row.replication)) ∙ ap length (are.replications ∙ sym exact.rows) ∙ length-map deltas (λ (row : DeltaBookRow). row.replication)
