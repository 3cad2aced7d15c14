-- Runs of rows that a delta leaves as they are.
use Rattle.std.proofs.Common.{◌≡◌, ℕ, zero, suc, ◌+◌, ◌-◌, ◌<◌, ◌≤◌, ℤ, ◌≤ℤ◌, int_le, false, List, [], ◌∷◌, ◌++◌, length, take, drop, get_or, Option, refl, sym, ap, ◌∙◌, arith}
use Rattle.std.specs.List.{AllByRecursion}
use Rattle.std.proofs.lemmas.Int.{ints}
use Rattle.std.proofs.lemmas.List.{append_assoc, length-take-le, map-append}
use Rattle.std.proofs.Math.Seq.{take-add, take-suc}
use Rattle.cluster_terms.specs.Arc.{greatest_token}
use Rattle.cluster_terms.specs.Row.{last_token}
use Rattle.placement_deltas.specs.Deltas.{ChangesNothing, delta_at}
use Rattle.placement_deltas.specs.declared.delta_row.DeltaRow.{DeltaRow}
use Rattle.range_placements.proofs.MapRows.{later_ends, within_top}
use Rattle.range_placements.specs.code.Changing.{row_changed}
use Rattle.range_placements.specs.Exchanging.{with_changes}
use Rattle.range_placements.specs.Placements.{IsPlacementMap}
use Rattle.range_placements.specs.declared.placement_row.PlacementRow.{PlacementRow}
use Rattle.range_placements.specs.declared.row_changes.NewNodes.{NewNodes}
use Rattle.range_placements.specs.declared.row_changes.RowChange.{RowChange}
use Rattle.placement_maps.proofs.TurnedSets.{turned_none}
use Rattle.placement_maps.specs.code.Turns.{AddsNodes, AreTurned, EndUpTo, IsWithin, Keeps, turned, turned_rows, with_turned}
use Rattle.placement_maps.specs.declared.turn.Turn.{Turn}

-- ---- where the rows of a run end

-- of rows that end past one token, the first ones end at or before another
rest_within : (rows : List PlacementRow) (m : ℕ) (first last : ℤ) → AllByRecursion (λ (r : PlacementRow). int_le (last_token r.right) first ≡ false) rows
    → EndUpTo last rows m → AllByRecursion (IsWithin first last) (take m rows)
rest_within rows zero first last past upto = tt
rest_within [] (suc m) first last past upto = tt
rest_within (row ∷ rows) (suc m) first last past upto = (
  (from (last_token row.right) past.0, upto 0 row (omega arith)),
  rest_within rows m first last past.1 (λ j d lt. upto (suc j) d (omega arith)),
)
  where
    from : (x : ℤ) → int_le x first ≡ false → first ≤ℤ x
    from x low = grind (arith, ints)

-- the rows of a map from a position on, that end at or before a token
pub run_within : (rows : List PlacementRow) (at m k : ℕ) (last : ℤ) → IsPlacementMap rows → at < length rows → (d : PlacementRow) → last_token (get_or rows at d).right ≤ℤ last → EndUpTo last rows k
    → m ≤ suc (k - suc at) → AllByRecursion (IsWithin (last_token (get_or rows at d).right) last) (take m (drop at rows))
run_within [] at m k last map bound d here upto few = absurd map
run_within (row ∷ rows) zero zero k last map bound d here upto few = tt
run_within (row ∷ rows) zero (suc m) k last map bound d here upto few = (
  (same (last_token row.right), here),
  rest_within rows m (last_token row.right) last (later_ends row rows map) (λ j e lt. upto (suc j) e (omega (arith, few))),
)
  where
    same : (x : ℤ) → x ≤ℤ x
    same x = grind (arith, ints)
run_within (row ∷ []) (suc at) m k last map bound d here upto few = absurd (omega (arith, bound))
run_within (row ∷ next ∷ rows) (suc at) m k last map bound d here upto few =
    run_within (next ∷ rows) at m (k - 1) last map.1 (omega (arith, bound)) d here (λ j e lt. upto (suc j) e (omega (arith, lt))) (omega (arith, few))

-- all rows of a map end at or before the greatest token
pub all_up_to : (rows : List PlacementRow) → IsPlacementMap rows → EndUpTo greatest_token rows (length rows)
all_up_to [] map j d lt = absurd (omega (arith, lt))
all_up_to (row ∷ rows) map zero d lt = within_top row rows map
all_up_to (row ∷ []) map (suc j) d lt = absurd (omega (arith, lt))
all_up_to (row ∷ next ∷ rows) map (suc j) d lt = all_up_to (next ∷ rows) map.1 j d (omega (arith, lt))

-- ---- turning them

module _ (turn : Turn) (delta : List DeltaRow) where
  -- rows that end where the delta changes nothing stay
  pub run_stays : (first last : ℤ) (run : List PlacementRow) → ChangesNothing delta first last → AllByRecursion (IsWithin first last) run → Keeps turn delta run
  run_stays first last [] nothing within = refl
  run_stays first last (r ∷ run) nothing within =
      let none = nothing (last_token r.right) within.0.0 within.0.1 in
      let sets : turned turn (r.reads, r.writes) (delta_at delta (last_token r.right)) ≡ (r.reads, r.writes) = ap (turned turn (r.reads, r.writes)) none ∙ turned_none turn r.reads r.writes [] [] refl refl in
      let rest = run_stays first last run nothing within.1 in
      λ i. (record { right = r.right; reads = (sets i).0; writes = (sets i).1 }) ∷ rest i

  turned_both : (one other : List PlacementRow) → turned_rows turn (one ++ other) delta ≡ turned_rows turn one delta ++ turned_rows turn other delta
  turned_both one other = map-append (row_changed (turned turn) delta) one other

  module _ (rows : List PlacementRow) (at : ℕ) (changes : List RowChange) (so_far : AreTurned turn delta rows at changes) where
    -- so the changes so far are those of the rows up to the end of a run that stays
    pub run_turned : (m : ℕ) → Keeps turn delta (take m (drop at rows)) → AreTurned turn delta rows (at + m) changes
    run_turned m stays rest =
        let run = take m (drop at rows) in
        let whole : take (at + m) rows ≡ take at rows ++ run = take-add at m rows in
        ap (λ l. with_changes changes (l ++ rest)) whole
        ∙ ap (with_changes changes) (append_assoc (take at rows) run rest)
        ∙ so_far (run ++ rest)
        ∙ sym (append_assoc (turned_rows turn (take at rows) delta) run rest)
        ∙ ap (λ l. (turned_rows turn (take at rows) delta ++ l) ++ rest) (sym stays)
        ∙ ap (λ l. l ++ rest) (sym (turned_both (take at rows) run))
        ∙ ap (λ l. turned_rows turn l delta ++ rest) (sym whole)

    -- and one more row gets its new sets
    pub row_turned : (row : PlacementRow) (nodes : Option NewNodes) (after : List RowChange) → at < length rows → row ≡ get_or rows at row → with_turned nodes row ≡ row_changed (turned turn) delta row
        → AddsNodes nodes at changes after → AreTurned turn delta rows (suc at) after
    row_turned row nodes after bound is sets adds rest =
        let before = take at rows in
        let new = row_changed (turned turn) delta row in
        let whole : take (suc at) rows ≡ before ++ row ∷ [] = take-suc rows at row bound ∙ ap (λ r. before ++ r ∷ []) (sym is) in
        ap (λ l. with_changes after (l ++ rest)) whole
        ∙ ap (with_changes after) (append_assoc before (row ∷ []) rest)
        ∙ adds row before rest (length-take-le at rows (omega (arith, bound)))
        ∙ ap (λ (r : PlacementRow). with_changes changes (before ++ r ∷ rest)) sets
        ∙ so_far (new ∷ rest)
        ∙ sym (append_assoc (turned_rows turn before delta) (new ∷ []) rest)
        ∙ ap (λ l. l ++ rest) (sym (turned_both before (row ∷ [])))
        ∙ ap (λ l. turned_rows turn l delta ++ rest) (sym whole)
