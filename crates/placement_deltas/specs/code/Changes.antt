-- Changes that are joined row by row.
use Rattle.std.specs.Prelude.{◌≡◌, Bool, false, List, [], ◌∷◌, ◌++◌, Option, Some, None}
use Rattle.std.specs.Option.{option_map}
use Rattle.cluster_terms.specs.declared.token.RightEnd.{RightEnd}
use Rattle.placement_deltas.specs.Deltas.{IsDelta}
use Rattle.placement_deltas.specs.code.JoinedRows.{closed, joined_from, same_change}
use Rattle.placement_deltas.specs.declared.delta_row.DeltaRow.{DeltaRow}

-- rows that are joined so far: those that have ended, and the last one, which the next row may continue
pub record RowsSoFar : Type 0 where
  pub joined : List DeltaRow
  pub begun : Option DeltaRow

-- these rows as joined so far: the last of them may be continued
abbrev pub so_far : List DeltaRow → RowsSoFar
so_far [] = record { joined = []; begun = None }
so_far (row ∷ []) = record { joined = []; begun = Some row }
so_far (row ∷ next ∷ rows) =
    let left = so_far (next ∷ rows) in record { joined = row ∷ left.joined; begun = left.begun }

-- whether the last row has the same change as a row
abbrev pub is_continued : Option DeltaRow → DeltaRow → Bool
is_continued None row = false
is_continued (Some last) row = same_change last row

-- the rows with the last one up to a right end
abbrev pub with_end : RightEnd → RowsSoFar → RowsSoFar
with_end right rows =
    let ended : DeltaRow → DeltaRow = λ last. record last { right = right } in
    record rows { begun = option_map ended rows.begun }

-- these rows are joined so far: with what is left they give all rows joined
pub record AreJoined (rows : List DeltaRow) (changes : RowsSoFar) : Type 0 where
  pub all : (rest : List DeltaRow) → changes.joined ++ joined_from changes.begun rest ≡ joined_from None (rows ++ rest)

-- the changes with one more row
pub record AreWithRow (old : RowsSoFar) (row : DeltaRow) (new : RowsSoFar) : Type 0 where
  pub joined : new.joined ≡ old.joined ++ closed old.begun row
  pub begun : new.begun ≡ Some row

-- the rows so far make a delta
pub record MakeDelta (changes : RowsSoFar) : Type 0 where
  pub rows : List DeltaRow
  pub joined : AreJoined rows changes
  pub delta : IsDelta (joined_from None rows)
