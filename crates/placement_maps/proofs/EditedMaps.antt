-- Rows that maps keep and rows that they get, map by map.
use Rattle.std.proofs.Common.{◌≡◌, ◌<◌, List, [], ◌∷◌, ◌++◌, length, get_or, sym, subst, arith}
use Rattle.std.specs.List.{AllByRecursion}
use Rattle.cluster_terms.specs.declared.row.TokenRange.{TokenRange}
use Rattle.placement_deltas.specs.declared.delta_book.DeltaBookRow.{DeltaBookRow}
use Rattle.range_placements.specs.Editing.{Edits, edited}
use Rattle.range_placements.specs.Placements.{IsPlacementMap}
use Rattle.transformations.specs.declared.image.Image.{Image}
use Rattle.placement_maps.proofs.ImageMaps.{is_map}
use Rattle.placement_maps.specs.code.MapChanges.{ArePlacementMaps, each_edited, maps_after}
use Rattle.placement_maps.specs.code.ShownMaps.{IsMapOf}
use Rattle.placement_maps.specs.code.Turns.{each_map, recut_rows}
use Rattle.placement_maps.specs.declared.map_change.MapChange.{MapChange}
use Rattle.range_placements.specs.declared.map_row.MapRow.{MapRow}
use Rattle.placement_maps.specs.declared.turn.Turn.{Turn}

-- where all maps are maps after their edits, so is the last one
pub last_held : (all : List Edits) (last : Edits) (book : List MapRow) (row : MapRow) → length all < length book → row ≡ get_or book (length all) row → ArePlacementMaps (each_edited (all ++ last ∷ []) book)
    → IsPlacementMap (edited last row.map)
last_held [] last [] row within is hold = absurd (omega arith)
last_held [] last (first ∷ book) row within is hold = subst (λ (r : MapRow). IsPlacementMap (edited last r.map)) (sym is) hold.0
last_held (edits ∷ all) last [] row within is hold = absurd (omega arith)
last_held (edits ∷ all) last (first ∷ book) row within is hold = last_held all last book row (omega arith) is hold.1

-- the maps of an image are maps
pub maps_hold : (image : Image) (book : List MapRow) → AllByRecursion (IsMapOf image) book → ArePlacementMaps book
maps_hold image [] all = tt
maps_hold image (row ∷ book) all = (subst IsPlacementMap (sym all.0.0) (is_map image row.replication all.0.1), maps_hold image book all.1)

-- a change makes the maps of a book those of other ranges, if there are as many deltas as maps
abbrev pub RecutsAll : Turn → List TokenRange → List MapRow → List DeltaBookRow → MapChange → Type 0
RecutsAll turn ranges book deltas change = length book ≡ length deltas → maps_after change book ≡ each_map (recut_rows turn ranges) book deltas
