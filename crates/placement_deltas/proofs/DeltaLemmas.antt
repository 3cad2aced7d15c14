-- Deltas: the row of a token, and the inverse.
use Rattle.std.proofs.Common.{◌≡◌, ℕ, ◌<◌, ◌≤◌, true, false, ℤ, ◌≤ℤ◌, int_lt, List, [], ◌∷◌, length, get_or, refl, sym, ap, ◌∙◌, arith}
use Rattle.std.proofs.lemmas.Int.{ints}
use Rattle.cluster_terms.proofs.rows.RingRows.{climb_high, told_by_row}
use Rattle.cluster_terms.specs.Row.{CoverRing, EndBefore, last_token}
use Rattle.placement_deltas.specs.Deltas.{IsDelta, change_in, delta_at, inverse_of}
use Rattle.placement_deltas.specs.declared.delta_row.DeltaRow.{DeltaRow}

-- ---- the row of a token

-- the rows of a delta cover the ring
pub covers_ring : (rows : List DeltaRow) → IsDelta rows → CoverRing (λ (r : DeltaRow). r.right) rows
covers_ring [] delta = delta
covers_ring (row ∷ []) delta = ap last_token delta
covers_ring (row ∷ next ∷ rows) delta = (delta.0, covers_ring (next ∷ rows) delta.2)

-- where k rows end before a token, the next row tells what is gained and lost at the token
pub found_at : (rows : List DeltaRow) (t : ℤ) (k : ℕ) (d : DeltaRow) → EndBefore (λ (r : DeltaRow). r.right) t rows k → k < length rows → change_in (get_or rows k d) ≡ delta_at rows t
found_at = told_by_row (λ (r : DeltaRow). r.right) change_in delta_at (λ row rows x. refl)

-- it tells the same of each token from there up to its end
pub found_from : (rows : List DeltaRow) (t : ℤ) (k : ℕ) (row : DeltaRow) → IsDelta rows
    → EndBefore (λ (r : DeltaRow). r.right) t rows k → k < length rows → row ≡ get_or rows k row → (x : ℤ) → t ≤ℤ x → x ≤ℤ last_token row.right → delta_at rows x ≡ change_in row
found_from rows t k row delta ends within is x from upto =
    sym (ap change_in is ∙ found_at rows x k row (low, climb_high (λ (r : DeltaRow). r.right) rows x (covers_ring rows delta) k row within is (high (last_token row.right) upto)) within)
  where
    high : (w : ℤ) → x ≤ℤ w → int_lt w x ≡ false
    high w le = grind (arith, ints)

    sooner : (w : ℤ) → int_lt w t ≡ true → int_lt w x ≡ true
    sooner w lt = grind (arith, ints)

    low : (j : ℕ) (d : DeltaRow) → 0 ≤ j → j < k → int_lt (last_token (get_or rows j d).right) x ≡ true
    low j d first below = sooner (last_token (get_or rows j d).right) (ends.0 j d first below)

-- ---- the inverse

pub inverse_is : (rows : List DeltaRow) → IsDelta rows → IsDelta (inverse_of rows)
inverse_is [] delta = delta
inverse_is (row ∷ []) delta = delta
inverse_is (row ∷ next ∷ rows) delta =
    (delta.0, λ same. delta.1 (ap (λ (p : List ℕ × List ℕ). (p.1, p.0)) same), inverse_is (next ∷ rows) delta.2)
