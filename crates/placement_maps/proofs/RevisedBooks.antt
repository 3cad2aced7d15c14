-- Books whose maps are changed, by new sets or by edits: map by map.
use Rattle.std.proofs.Common.{◌≡◌, ◌⊎◌, inl, inr, ℕ, zero, suc, ◌<◌, ◌≤◌, List, [], ◌∷◌, ◌++◌, length, get_or, slice_set, refl, ap, arith}
use Rattle.placement_deltas.specs.declared.delta_book.DeltaBookRow.{DeltaBookRow}
use Rattle.placement_deltas.specs.declared.delta_row.DeltaRow.{DeltaRow}
use Rattle.range_placements.specs.declared.placement_row.PlacementRow.{PlacementRow}
use Rattle.placement_maps.specs.code.MapChanges.{each_revised, revised_at}
use Rattle.placement_maps.specs.code.Turns.{each_map}
use Rattle.range_placements.specs.declared.map_row.MapRow.{MapRow}

module _ {C : Type 0} (made : C → List PlacementRow → List PlacementRow) where
  pub revised_stored : (change : C) (book : List MapRow) (n : ℕ) (row : MapRow) (rows : List PlacementRow) → rows ≡ made change row.map → n < length book → row ≡ get_or book n row
      → slice_set book n (record { replication = row.replication; map = rows }) ≡ revised_at made n change book
  revised_stored change [] n row rows same within is = absurd (omega arith)
  revised_stored change (first ∷ book) zero row rows same within is = rw (same, is) refl
  revised_stored change (first ∷ book) (suc n) row rows same within is = ap (λ l. first ∷ l) (revised_stored change book n row rows same (omega arith) is)

  pub revised_past : (change : C) (book : List MapRow) (n : ℕ) → length book ≤ n → revised_at made n change book ≡ book
  revised_past change [] n past = refl
  revised_past change (row ∷ book) zero past = absurd (omega arith)
  revised_past change (row ∷ book) (suc n) past = ap (λ l. row ∷ l) (revised_past change book n (omega arith))

  -- the last map that changes can be changed first
  pub last_revised : (all : List C) (last : C) (book : List MapRow) → each_revised made (all ++ last ∷ []) book ≡ each_revised made all (revised_at made (length all) last book)
  last_revised [] last [] = refl
  last_revised [] last (row ∷ book) = refl
  last_revised (change ∷ all) last [] = refl
  last_revised (change ∷ all) last (row ∷ book) = ap (λ l. (record { replication = row.replication; map = made change row.map }) ∷ l) (last_revised all last book)

  -- what is done to the maps that are left leads to all maps changed
  module _ (wanted : List PlacementRow → List DeltaRow → List PlacementRow) where
    abbrev pub LeadsToAll : List C → List MapRow → List DeltaBookRow → List MapRow → List DeltaBookRow → Type 0
    LeadsToAll changes left deltas_left book deltas = (more : List C) → each_revised made more left ≡ each_map wanted left deltas_left → each_revised made (changes ++ more) book ≡ each_map wanted book deltas

    pub all_led : (changes : List C) (left : List MapRow) (deltas_left : List DeltaBookRow) (book : List MapRow) (deltas : List DeltaBookRow)
        → length left ≡ length deltas_left → (length left ≡ 0) ⊎ (length deltas_left ≡ 0) → LeadsToAll changes left deltas_left book deltas → each_revised made (changes ++ []) book ≡ each_map wanted book deltas
    all_led changes [] deltas_left book deltas same over leads = leads [] refl
    all_led changes (row ∷ left) [] book deltas same over leads = absurd (omega arith)
    all_led changes (row ∷ left) (d ∷ deltas_left) book deltas same (inl none) leads = absurd (omega arith)
    all_led changes (row ∷ left) (d ∷ deltas_left) book deltas same (inr none) leads = absurd (omega arith)
