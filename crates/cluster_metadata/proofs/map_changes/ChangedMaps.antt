-- The placement maps of the image that a change leads to.
use Rattle.std.proofs.Common.{◌≡◌, List, [], ◌∷◌, sym, ap, ◌∙◌, subst}
use Rattle.std.specs.List.{AllByRecursion}
use Rattle.cluster_terms.specs.declared.token.Pair.{Pair}
use Rattle.placement_deltas.specs.Replications.{replications_of}
use Rattle.transformations.specs.Rings.{reads_at, writes_at}
use Rattle.transformations.specs.declared.image.Image.{Image}
use Rattle.transformations.specs.declared.keyspace.KeyspaceRow.{KeyspaceRow}
use Rattle.placement_maps.specs.code.Arrangements.{arranged}
use Rattle.cluster_metadata.specs.code.Change.{ChangesTo, changed}
use Rattle.cluster_metadata.specs.code.MapSteps.{BringsMaps}
use Rattle.placement_maps.specs.code.MapChanges.{maps_after}
use Rattle.placement_maps.specs.code.ShownMaps.{AreMaps, AreMapsOf, IsMapOf}
use Rattle.placement_maps.specs.declared.arrangement.Slot.{Slot}
use Rattle.cluster_metadata.specs.declared.changes.change.Change.{Change}
use Rattle.cluster_metadata.specs.declared.changes.change.Change.TheVariants.{Keyspaces, Tokens}
use Rattle.placement_maps.specs.declared.map_change.MapChange.{MapChange}
use Rattle.placement_maps.specs.declared.map_change.MapChange.TheVariants.{Arranged, Keep}
use Rattle.range_placements.specs.declared.map_row.MapRow.{MapRow}
use Rattle.placement_maps.proofs.ExchangedMaps.{same_book}

-- the maps to which the image's own maps lead are those of the image after the change
pub made_from : (image : Image) (change : Change) (maps : MapChange) (own : List MapRow) → AreMaps image own → AreMaps (changed image change) (maps_after maps own) → BringsMaps image change maps
made_from image change maps own has are book was = subst (λ b. AreMaps (changed image change) (maps_after maps b)) (same_book image own book has was) are

-- maps that are placed under new keyspaces
pub keyspace_maps : (image : Image) (change : Change) (rows : List KeyspaceRow) (next : List MapRow) → ChangesTo rows change → AreMapsOf image (replications_of rows) next → AreMaps (changed image change) next
unfolding reads_at writes_at
keyspace_maps image (Keyspaces keyspaces renewed) rows next same are = record { replications = are.replications ∙ ap replications_of (sym same); placements = each next are.placements }
  where
    each : (book : List MapRow) → AllByRecursion (IsMapOf image) book → AllByRecursion (IsMapOf (changed image (Keyspaces keyspaces renewed))) book
    each [] all = tt
    each (row ∷ book) all = ((all.0.0, all.0.1), each book all.1)
keyspace_maps image _ rows next same are = absurd same

-- where such maps are arranged of the image's own, the arrangement brings them
pub arranged_maps : (image : Image) (change : Change) (rows : List KeyspaceRow) (own : List MapRow) (slots : List Slot) → ChangesTo rows change → AreMaps image own → AreMapsOf image (replications_of rows) (arranged slots own)
    → BringsMaps image change (Arranged slots)
arranged_maps image change rows own slots same has are =
    made_from image change (Arranged slots) own has (keyspace_maps image change rows (arranged slots own) same are)

-- without keyspaces there are no maps, and new tokens bring none
pub no_maps : (image : Image) (change : Change) (pairs : List Pair) → change ≡ Tokens pairs → image.keyspaces ≡ [] → BringsMaps image change Keep
no_maps image change pairs is none book are = subst (λ c. AreMaps (changed image c) book) (sym is) (by book are)
  where
    by : (book : List MapRow) → AreMaps image book → AreMaps (changed image (Tokens pairs)) book
    by [] are = record { replications = are.replications; placements = tt }
    by (row ∷ book) are = cc (are.replications ∙ ap replications_of none)
