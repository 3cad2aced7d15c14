-- Deltas: the nodes that are gained and the nodes that are lost at each token.
use Rattle.std.specs.Prelude.{◌≡◌, ◌≢◌, true, if◌then◌else◌, ℕ, ℤ, ◌≤ℤ◌, int_lt, int_le, List, [], ◌∷◌, map}
use Rattle.std.specs.List.{AllByRecursion}
use Rattle.cluster_terms.specs.Row.{is_within, last_token}
use Rattle.cluster_terms.specs.declared.row.TokenRange.{TokenRange}
use Rattle.cluster_terms.specs.declared.token.RightEnd.TheVariants.{Max}
use Rattle.node_sets.specs.NodeSets.{without}
use Rattle.placement_deltas.specs.declared.delta_row.DeltaRow.{DeltaRow}
use Rattle.placement_deltas.specs.declared.side.Side.{Side}
use Rattle.placement_deltas.specs.declared.side.Side.TheVariants.{Gained, Lost}
use Rattle.token_ring.specs.TokenRanges.{is_cut_right}

-- the nodes gained and the nodes lost between two sets of nodes
abbrev pub change : List ℕ → List ℕ → List ℕ × List ℕ
change before after = (without after before, without before after)

-- one side of a change, and no node on the other
abbrev pub only : Side → List ℕ × List ℕ → List ℕ × List ℕ
only Gained nodes = (nodes.0, [])
only Lost nodes = ([], nodes.1)

-- the nodes gained and the nodes lost in a row
abbrev pub change_in : DeltaRow → List ℕ × List ℕ
change_in row = (row.gained, row.lost)

-- the nodes gained and the nodes lost at a token: those of the first row that ends at or after it
abbrev pub delta_at : List DeltaRow → ℤ → List ℕ × List ℕ
delta_at [] x = ([], [])
delta_at (row ∷ rows) x = if int_le x (last_token row.right) then change_in row else delta_at rows x

-- a delta changes nothing at the tokens from one to another
abbrev pub ChangesNothing : List DeltaRow → ℤ → ℤ → Type 0
ChangesNothing delta first last = (x : ℤ) → first ≤ℤ x → x ≤ℤ last → delta_at delta x ≡ ([], [])

-- the rows ascend, adjacent rows differ in their gained or lost nodes, and the last row ends in Max
abbrev pub IsDelta : List DeltaRow → Type 0
IsDelta [] = ⊥
IsDelta (row ∷ []) = row.right ≡ Max
IsDelta (row ∷ next ∷ rows) =
    (int_lt (last_token row.right) (last_token next.right) ≡ true) × (change_in row ≢ change_in next) × IsDelta (next ∷ rows)

-- at each token of each range, the delta shows the change between the range's sets before and after
abbrev pub ShowsChanges : List TokenRange → List (List ℕ) → List (List ℕ) → List DeltaRow → Type 0
ShowsChanges (range ∷ ranges) (b ∷ before) (a ∷ after) delta =
    ((x : ℤ) → is_within x range ≡ true → delta_at delta x ≡ change b a) × ShowsChanges ranges before after delta
ShowsChanges _ _ _ delta = Unit

-- each row ends at a cut or in Max
abbrev pub EndAtCuts : List ℤ → List DeltaRow → Type 0
EndAtCuts cuts delta = AllByRecursion (λ row. is_cut_right cuts row.right ≡ true) delta

-- a row with the nodes gained and the nodes lost exchanged
abbrev pub exchanged : DeltaRow → DeltaRow
exchanged row = record { right = row.right; gained = row.lost; lost = row.gained }

-- a delta with the nodes gained and the nodes lost exchanged
abbrev pub inverse_of : List DeltaRow → List DeltaRow
inverse_of rows = map exchanged rows
