-- The rows of a placement map: their order, and the row of a token.
use Rattle.std.proofs.Common.{◌≡◌, ℕ, zero, suc, ◌-◌, ◌<◌, ◌≤◌, true, false, if◌then◌else◌, ℤ, ◌≤ℤ◌, int_lt, int_le, List, [], ◌∷◌, length, get_or, refl, ap, ◌∙◌, arith}
use Rattle.std.specs.List.{AllByRecursion}
use Rattle.std.proofs.lemmas.Int.{ints}
use Rattle.cluster_terms.proofs.lists.AscendingLemmas.{weaker}
use Rattle.cluster_terms.proofs.rows.RingRows.{told_by_row}
use Rattle.cluster_terms.specs.Arc.{greatest_token}
use Rattle.cluster_terms.specs.Row.{EndBefore, last_token}
use Rattle.range_placements.specs.Placements.{IsPlacementMap, map_at, placement_in}
use Rattle.range_placements.specs.declared.placement_row.PlacementRow.{PlacementRow}

-- ---- the order of the rows

-- the first of some rows ends past a token
abbrev pub Past : ℤ → List PlacementRow → Type 0
Past w [] = ⊥
Past w (row ∷ rows) = int_lt w (last_token row.right) ≡ true

-- a row before the rows of a map
pub map_cons : (row : PlacementRow) (rows : List PlacementRow) → Past (last_token row.right) rows → IsPlacementMap rows → IsPlacementMap (row ∷ rows)
map_cons row [] past map = absurd past
map_cons row (next ∷ rows) past map = (past, map)

-- no row ends past the greatest token
pub within_top : (row : PlacementRow) (rows : List PlacementRow) → IsPlacementMap (row ∷ rows) → last_token row.right ≤ℤ greatest_token
within_top row [] map = upto (last_token row.right) map
  where
    upto : (w : ℤ) → w ≡ greatest_token → w ≤ℤ greatest_token
    upto w is = omega (arith, ints)
within_top row (next ∷ rows) map = below (last_token row.right) (last_token next.right) map.0 (within_top next rows map.1)
  where
    below : (a b : ℤ) → int_lt a b ≡ true → b ≤ℤ greatest_token → a ≤ℤ greatest_token
    below a b h k = grind (arith, ints)

-- ---- the row of a token

-- the first k rows end before a token, and the others do not
abbrev pub Splits : ℤ → List PlacementRow → ℕ → Type 0
Splits t rows k = EndBefore (λ (r : PlacementRow). r.right) t rows k

-- where k rows end before a token, the next row has the reads and the writes at the token
pub found_at : (rows : List PlacementRow) (t : ℤ) (k : ℕ) (d : PlacementRow) → Splits t rows k → k < length rows → placement_in (get_or rows k d) ≡ map_at rows t
found_at = told_by_row (λ (r : PlacementRow). r.right) placement_in map_at (λ row rows x. refl)

-- where rows are later ones of a map, they end past its first row
pub later_ends : (row : PlacementRow) (rows : List PlacementRow) → IsPlacementMap (row ∷ rows) → AllByRecursion (λ (r : PlacementRow). int_le (last_token r.right) (last_token row.right) ≡ false) rows
later_ends row [] map = tt
later_ends row (next ∷ rows) map = (
  first (last_token row.right) (last_token next.right) map.0,
  weaker (λ (r : PlacementRow). int_le (last_token r.right) (last_token next.right) ≡ false) (λ (r : PlacementRow). int_le (last_token r.right) (last_token row.right) ≡ false)
      (λ r past. further (last_token row.right) (last_token next.right) (last_token r.right) map.0 past) rows (later_ends next rows map.1),
)
  where
    first : (a b : ℤ) → int_lt a b ≡ true → int_le b a ≡ false
    first a b h = grind (arith, ints)

    further : (a b c : ℤ) → int_lt a b ≡ true → int_le c b ≡ false → int_le c a ≡ false
    further a b c h k = grind (arith, ints)

-- what rows tell at a token past the first one, they tell behind it
told_behind : (row : PlacementRow) (rows part : List PlacementRow) → AllByRecursion (λ (r : PlacementRow). int_le (last_token r.right) (last_token row.right) ≡ false) part
    → AllByRecursion (λ (r : PlacementRow). map_at rows (last_token r.right) ≡ placement_in r) part → AllByRecursion (λ (r : PlacementRow). map_at (row ∷ rows) (last_token r.right) ≡ placement_in r) part
told_behind row rows [] past told = tt
told_behind row rows (r ∷ part) past told = (ap (λ b. if b then placement_in row else map_at rows (last_token r.right)) past.0 ∙ told.0, told_behind row rows part past.1 told.1)

first_tells : (row : PlacementRow) (rows : List PlacementRow) → map_at (row ∷ rows) (last_token row.right) ≡ placement_in row
first_tells row rows = ap (λ b. if b then placement_in row else map_at rows (last_token row.right)) (upto (last_token row.right))
  where
    upto : (w : ℤ) → int_le w w ≡ true
    upto w = grind (arith, ints)

-- each row of a map tells the reads and the writes at its last token
pub rows_tell : (rows : List PlacementRow) → IsPlacementMap rows → AllByRecursion (λ (r : PlacementRow). map_at rows (last_token r.right) ≡ placement_in r) rows
rows_tell [] map = tt
rows_tell (row ∷ []) map = (first_tells row [], tt)
rows_tell (row ∷ next ∷ rows) map = (first_tells row (next ∷ rows), told_behind row (next ∷ rows) (next ∷ rows) (later_ends row (next ∷ rows) map) (rows_tell (next ∷ rows) map.1))

-- ---- a search for the row of a token

-- a map has a row
pub some_rows : (rows : List PlacementRow) → IsPlacementMap rows → 1 ≤ length rows
some_rows [] map = absurd map
some_rows (row ∷ rows) map = omega arith

-- no row stands before the first one
pub none_low : (rows : List PlacementRow) (t : ℤ) (j : ℕ) (d : PlacementRow) → j < 0 → int_lt (last_token (get_or rows j d).right) t ≡ true
none_low rows t j d below = absurd (omega arith)

-- the last row does not end before a token
pub last_stays : (rows : List PlacementRow) (t : ℤ) → IsPlacementMap rows → t ≤ℤ greatest_token → (j : ℕ) (d : PlacementRow) → length rows - 1 ≤ j → j < length rows
    → int_lt (last_token (get_or rows j d).right) t ≡ false
last_stays [] t map top j d from below = absurd map
last_stays (row ∷ []) t map top zero d from below = upto (last_token row.right) map
  where
    upto : (w : ℤ) → w ≡ greatest_token → int_lt w t ≡ false
    upto w is = grind (arith, ints)
last_stays (row ∷ []) t map top (suc j) d from below = absurd (omega arith)
last_stays (row ∷ next ∷ rows) t map top zero d from below = absurd (omega arith)
last_stays (row ∷ next ∷ rows) t map top (suc j) d from below = last_stays (next ∷ rows) t map.1 top j d (omega arith) (omega arith)
