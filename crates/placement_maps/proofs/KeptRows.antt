-- Rows of a map that a change of its ranges keeps.
use Rattle.std.proofs.Common.{◌≡◌, ℕ, zero, suc, ◌≤◌, List, [], ◌∷◌, take, drop, map, refl, sym, ap, ◌∙◌}
use Rattle.std.specs.List.{AllByRecursion}
use Rattle.std.proofs.Math.Seq.{take-take}
use Rattle.std.proofs.lemmas.List.{take-map}
use Rattle.std.proofs.lemmas.Simd.{map-map}
use Rattle.cluster_terms.specs.Row.{last_token}
use Rattle.cluster_terms.specs.declared.row.TokenRange.{TokenRange}
use Rattle.cluster_terms.specs.declared.token.RightEnd.{RightEnd}
use Rattle.placement_deltas.specs.Deltas.{delta_at}
use Rattle.placement_deltas.specs.declared.delta_row.DeltaRow.{DeltaRow}
use Rattle.range_placements.proofs.MapRows.{rows_tell}
use Rattle.range_placements.specs.code.Changing.{row_changed}
use Rattle.range_placements.specs.Placements.{IsPlacementMap, map_at, placement_in, right_ends}
use Rattle.range_placements.specs.declared.placement_row.PlacementRow.{PlacementRow}
use Rattle.placement_maps.specs.code.Turns.{Keeps, recut_rows, row_to, turned, turned_at, turned_rows}
use Rattle.placement_maps.specs.declared.turn.Turn.{Turn}
use Rattle.placement_maps.specs.declared.turn.Turn.TheVariants.{Keep}

all_dropped : {X : Type 0} (P : X → Type 0) (n : ℕ) (xs : List X) → AllByRecursion P xs → AllByRecursion P (drop n xs)
all_dropped P zero [] all = all
all_dropped P (suc n) [] all = all
all_dropped P zero (x ∷ xs) all = all
all_dropped P (suc n) (x ∷ xs) all = all_dropped P n xs all.1

all_taken : {X : Type 0} (P : X → Type 0) (n : ℕ) (xs : List X) → AllByRecursion P xs → AllByRecursion P (take n xs)
all_taken P zero [] all = tt
all_taken P (suc n) [] all = tt
all_taken P zero (x ∷ xs) all = tt
all_taken P (suc n) (x ∷ xs) all = (all.0, all_taken P n xs all.1)

module _ (turn : Turn) (rows : List PlacementRow) (delta : List DeltaRow) where
  -- a row that ends so, with the sets that the turn gives its last token
  abbrev row_up_to : RightEnd → PlacementRow
  row_up_to right = row_to right (turned_at turn rows delta (last_token right))

  -- rows of a map, turned
  turned_up_to : (part : List PlacementRow) → AllByRecursion (λ (r : PlacementRow). map_at rows (last_token r.right) ≡ placement_in r) part
      → turned_rows turn part delta ≡ map row_up_to (right_ends part)
  turned_up_to [] told = refl
  turned_up_to (r ∷ part) told =
      ap (λ p. row_to r.right (turned turn p (delta_at delta (last_token r.right))) ∷ turned_rows turn part delta) (sym told.0)
      ∙ ap (λ l. row_up_to r.right ∷ l) (turned_up_to part told.1)

  kept_told : (part : List PlacementRow) (ranges : List TokenRange) → AllByRecursion (λ (r : PlacementRow). map_at rows (last_token r.right) ≡ placement_in r) part
      → Keeps turn delta part → right_ends part ≡ map (λ range. range.right) ranges → part ≡ recut_rows turn ranges rows delta
  kept_told part ranges told keeps ends =
      sym keeps ∙ turned_up_to part told ∙ ap (λ rights. map row_up_to rights) ends ∙ map-map row_up_to (λ (range : TokenRange). range.right) ranges

  -- the first rows from an index on, of those that are kept, are those of the ranges that end as they do
  pub kept_rows : (at m count : ℕ) (ranges : List TokenRange) → IsPlacementMap rows → count ≤ m → Keeps turn delta (take m (drop at rows))
      → right_ends (take count (take m (drop at rows))) ≡ map (λ range. range.right) ranges → take count (drop at rows) ≡ recut_rows turn ranges rows delta
  kept_rows at m count ranges is_map few keeps ends =
      let P = λ (r : PlacementRow). map_at rows (last_token r.right) ≡ placement_in r in
      let run = take m (drop at rows) in
      let first : Keeps turn delta (take count run) = sym (take-map (row_changed (turned turn) delta) count run) ∙ ap (λ (l : List PlacementRow). take count l) keeps in
      sym (take-take count m (drop at rows) few)
      ∙ kept_told (take count run) ranges (all_taken P count run (all_taken P m (drop at rows) (all_dropped P at rows (rows_tell rows is_map)))) first ends

-- a turn that keeps the sets keeps the rows
pub kept_turned : (rows : List PlacementRow) (delta : List DeltaRow) → Keeps Keep delta rows
kept_turned [] delta = refl
kept_turned (row ∷ rows) delta = ap (λ l. row ∷ l) (kept_turned rows delta)
