-- A join of node 4 between two tokens, and what the definitions say of it. Each fact is computed.
use Rattle.std.specs.Prelude.{◌≡◌, ℕ, pos, List, [], ◌∷◌, None, refl}
use Rattle.cluster_terms.specs.Arc.{greatest_token}
use Rattle.cluster_terms.specs.Row.{rows_between}
use Rattle.cluster_terms.specs.declared.token.RightEnd.{RightEnd}
use Rattle.cluster_terms.specs.declared.token.RightEnd.TheVariants.{At, Max}
use Rattle.placement_deltas.specs.Deltas.{change, delta_at, inverse_of}
use Rattle.placement_deltas.specs.code.JoinedRows.{change_rows, joined_from}
use Rattle.placement_deltas.specs.declared.delta_row.DeltaRow.{DeltaRow}

abbrev row : RightEnd → List ℕ → List ℕ → DeltaRow
row right gained lost = record { right = right; gained = gained; lost = lost }

-- nodes 1 and 3 of the first row between the cuts 100 and 200 become 1 and 4, and those of the last row 3 and 4
abbrev join : List DeltaRow
join = row (At (pos 100)) (4 ∷ []) (3 ∷ []) ∷ row (At (pos 200)) [] [] ∷ row Max (4 ∷ []) (1 ∷ []) ∷ []

gained_and_lost : change (1 ∷ 3 ∷ []) (1 ∷ 4 ∷ []) ≡ (4 ∷ [], 3 ∷ [])
gained_and_lost = refl

at_a_cut : delta_at join (pos 100) ≡ (4 ∷ [], 3 ∷ [])
at_a_cut = refl

past_a_cut : delta_at join (pos 101) ≡ ([], [])
past_a_cut = refl

at_the_end : delta_at join greatest_token ≡ (4 ∷ [], 1 ∷ [])
at_the_end = refl

back_at_the_end : delta_at (inverse_of join) greatest_token ≡ (1 ∷ [], 4 ∷ [])
back_at_the_end = refl

-- the cut 150, where the change stays the same, is left out
joined_rows :
    joined_from None
    (change_rows (rows_between (pos 100 ∷ pos 150 ∷ pos 200 ∷ []))
    ((1 ∷ 3 ∷ []) ∷ (1 ∷ 2 ∷ []) ∷ (1 ∷ 3 ∷ []) ∷ (1 ∷ 3 ∷ []) ∷ [])
    ((1 ∷ 4 ∷ []) ∷ (1 ∷ 2 ∷ []) ∷ (1 ∷ 3 ∷ []) ∷ (3 ∷ 4 ∷ []) ∷ []))
    ≡ join
joined_rows = refl
