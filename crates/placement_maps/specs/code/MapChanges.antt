-- The placement maps after a change of them.
use Rattle.std.specs.Prelude.{ℕ, zero, suc, List, [], ◌∷◌}
use Rattle.std.specs.List.{AllByRecursion}
use Rattle.range_placements.specs.Editing.{Edits, edited}
use Rattle.range_placements.specs.Exchanging.{with_changes}
use Rattle.range_placements.specs.Placements.{IsPlacementMap}
use Rattle.range_placements.specs.declared.placement_row.PlacementRow.{PlacementRow}
use Rattle.range_placements.specs.declared.row_changes.RowChange.{RowChange}
use Rattle.placement_maps.specs.code.Arrangements.{arranged}
use Rattle.placement_maps.specs.declared.map_change.MapChange.{MapChange}
use Rattle.placement_maps.specs.declared.map_change.MapChange.TheVariants.{Keep, Anew, Arranged, Sets, Rows}
use Rattle.range_placements.specs.declared.map_row.MapRow.{MapRow}

-- a book with a change of the map at a position
abbrev pub revised_at : {C : Type 0} → (C → List PlacementRow → List PlacementRow) → ℕ → C → List MapRow → List MapRow
revised_at made n change [] = []
revised_at made zero change (row ∷ book) = record { replication = row.replication; map = made change row.map } ∷ book
revised_at made (suc n) change (row ∷ book) = row ∷ revised_at made n change book

-- a book with a change of each map
abbrev pub each_revised : {C : Type 0} → (C → List PlacementRow → List PlacementRow) → List C → List MapRow → List MapRow
each_revised made [] book = book
each_revised made (change ∷ changes) [] = []
each_revised made (change ∷ changes) (row ∷ book) = record { replication = row.replication; map = made change row.map } ∷ each_revised made changes book

-- new sets in the map at a position
abbrev pub exchanged_at : ℕ → List RowChange → List MapRow → List MapRow
exchanged_at n changes book = revised_at with_changes n changes book

-- new sets in each map
abbrev pub each_exchanged : List (List RowChange) → List MapRow → List MapRow
each_exchanged all book = each_revised with_changes all book

-- rows kept and new ones put in, in the map at a position
abbrev pub edited_at : ℕ → Edits → List MapRow → List MapRow
edited_at n edits book = revised_at edited n edits book

-- rows kept and new ones put in, in each map
abbrev pub each_edited : List Edits → List MapRow → List MapRow
each_edited all book = each_revised edited all book

-- each row of a book holds the rows of a map
abbrev pub ArePlacementMaps : List MapRow → Type 0
ArePlacementMaps book = AllByRecursion (λ (row : MapRow). IsPlacementMap row.map) book

-- the maps after such a change
abbrev pub maps_after : MapChange → List MapRow → List MapRow
maps_after Keep book = book
maps_after (Anew next) book = next
maps_after (Arranged slots) book = arranged slots book
maps_after (Sets changes) book = each_exchanged changes.items book
maps_after (Rows edits) book = each_edited edits.items book
