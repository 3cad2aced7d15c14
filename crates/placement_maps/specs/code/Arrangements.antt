-- Books that keep maps of another book in a new order, beside new maps.
-- `BringsMaps` is made of `arranged`.
use Rattle.std.specs.Prelude.{List, [], ◌∷◌, ◌++◌, take, drop}
use Rattle.std.specs.List.{remove}
use Rattle.cluster_terms.specs.declared.replication.Replication.{Replication}
use Rattle.transformations.specs.declared.image.Image.{Image}
use Rattle.placement_maps.specs.code.ShownMaps.{AreMapsOf}
use Rattle.placement_maps.specs.declared.arrangement.Slot.{Slot}
use Rattle.placement_maps.specs.declared.arrangement.Slot.TheVariants.{Kept, Placed}
use Rattle.range_placements.specs.declared.map_row.MapRow.{MapRow}

-- the maps of these slots: each that is kept is taken out of a book, and a position past the last map gives none
abbrev pub arranged : List Slot → List MapRow → List MapRow
arranged [] book = []
arranged (Kept n ∷ slots) book = take 1 (drop n book) ++ arranged slots (remove book n)
arranged (Placed row ∷ slots) book = row ∷ arranged slots book

-- the maps that these slots leave in the book
abbrev pub left_by : List Slot → List MapRow → List MapRow
left_by [] book = book
left_by (Kept n ∷ slots) book = left_by slots (remove book n)
left_by (Placed row ∷ slots) book = left_by slots book

-- the slots give the maps of these replications, and leave the maps of others
pub record Arranges (image : Image) (rs others : List Replication) (slots : List Slot) (book : List MapRow) : Type 0 where
  pub given : AreMapsOf image rs (arranged slots book)
  pub left : AreMapsOf image others (left_by slots book)

-- where a book has the maps of the replications before, the slot gives the map of r, and leaves those after
abbrev pub Fills : Image → Replication → List Replication → List Replication → Slot → Type 0
Fills image r before after slot = (book : List MapRow) → AreMapsOf image before book → Arranges image (r ∷ []) after (slot ∷ []) book
