-- A map of three rows, and what the definitions say of it. Each fact is computed.
use Rattle.std.specs.Prelude.{◌≡◌, ℕ, pos, true, false, List, [], ◌∷◌, refl}
use Rattle.cluster_terms.specs.Arc.{greatest_token}
use Rattle.cluster_terms.specs.declared.token.RightEnd.{RightEnd}
use Rattle.cluster_terms.specs.declared.token.RightEnd.TheVariants.{At, Max}
use Rattle.range_placements.specs.Placements.{with_change, cuts_of, is_cut_of, merged_rows, map_at, reads_changed, split_rows, writes_changed}
use Rattle.range_placements.specs.declared.placement_row.PlacementRow.{PlacementRow}

abbrev row : RightEnd → List ℕ → List ℕ → PlacementRow
row right reads writes = record { right = right; reads = reads; writes = writes }

-- while node 4 joins, it is written between the tokens 100 and 200, and not read yet
abbrev joining : List PlacementRow
joining = row (At (pos 100)) (1 ∷ 2 ∷ []) (1 ∷ 2 ∷ []) ∷ row (At (pos 200)) (1 ∷ 3 ∷ []) (1 ∷ 3 ∷ 4 ∷ []) ∷ row Max (1 ∷ 2 ∷ []) (1 ∷ 2 ∷ []) ∷ []

its_cuts : cuts_of joining ≡ pos 100 ∷ pos 200 ∷ []
its_cuts = refl

at_a_cut : map_at joining (pos 100) ≡ (1 ∷ 2 ∷ [], 1 ∷ 2 ∷ [])
at_a_cut = refl

past_a_cut : map_at joining (pos 101) ≡ (1 ∷ 3 ∷ [], 1 ∷ 3 ∷ 4 ∷ [])
past_a_cut = refl

at_the_end : map_at joining greatest_token ≡ (1 ∷ 2 ∷ [], 1 ∷ 2 ∷ [])
at_the_end = refl

split_at_a_cut : split_rows joining (pos 100) ≡ joining
split_at_a_cut = refl

-- a new cut splits the row of its token
split_in_a_row :
    split_rows joining (pos 150)
    ≡ row (At (pos 100)) (1 ∷ 2 ∷ []) (1 ∷ 2 ∷ [])
    ∷ row (At (pos 150)) (1 ∷ 3 ∷ []) (1 ∷ 3 ∷ 4 ∷ [])
    ∷ row (At (pos 200)) (1 ∷ 3 ∷ []) (1 ∷ 3 ∷ 4 ∷ [])
    ∷ row Max (1 ∷ 2 ∷ []) (1 ∷ 2 ∷ [])
    ∷ []
split_in_a_row = refl

merged_back : merged_rows (split_rows joining (pos 150)) (pos 150) ≡ joining
merged_back = refl

-- the greatest token has no right side
split_at_the_end : is_cut_of (split_rows joining greatest_token) greatest_token ≡ true
split_at_the_end = refl

merged_at_the_end : merged_rows (split_rows joining greatest_token) greatest_token ≡ joining
merged_at_the_end = refl

no_cut_at_the_end : is_cut_of joining greatest_token ≡ false
no_cut_at_the_end = refl

-- node 4 takes the place of node 3, in the reads or in the writes
swapped : reads_changed (1 ∷ 3 ∷ [], 1 ∷ 3 ∷ 4 ∷ []) (4 ∷ [], 3 ∷ []) ≡ (1 ∷ 4 ∷ [], 1 ∷ 3 ∷ 4 ∷ [])
swapped = refl

ended_writes : writes_changed (1 ∷ 4 ∷ [], 1 ∷ 3 ∷ 4 ∷ []) ([], 3 ∷ []) ≡ (1 ∷ 4 ∷ [], 1 ∷ 4 ∷ [])
ended_writes = refl

gained_twice : with_change (1 ∷ 4 ∷ []) (4 ∷ []) [] ≡ 1 ∷ 4 ∷ []
gained_twice = refl
