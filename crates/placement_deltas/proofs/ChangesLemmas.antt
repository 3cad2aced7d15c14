-- Changes that are joined row by row.
use Rattle.std.proofs.Common.{◌≡◌, List, [], ◌∷◌, ◌++◌, Option, Some, None, ap, sym, ◌∙◌, append_assoc}
use Rattle.std.proofs.lemmas.List.{append-nil}
use Rattle.placement_deltas.specs.code.Changes.{AreJoined, AreWithRow, RowsSoFar}
use Rattle.placement_deltas.specs.code.JoinedRows.{closed, joined_from, row_ended}
use Rattle.placement_deltas.specs.declared.delta_row.DeltaRow.{DeltaRow}

-- one row more, and those that are left
pub joined_next : (row : DeltaRow) (old new : RowsSoFar) (rest all : List DeltaRow) → AreWithRow old row new → old.joined ++ joined_from old.begun (row ∷ rest) ≡ all → new.joined ++ joined_from new.begun rest ≡ all
joined_next row old new rest all more is =
    ap (λ (joined : List DeltaRow). joined ++ joined_from new.begun rest) more.joined
    ∙ ap (λ (begun : Option DeltaRow). (old.joined ++ closed old.begun row) ++ joined_from begun rest) more.begun
    ∙ append_assoc old.joined (closed old.begun row) (joined_from (Some row) rest)
    ∙ is

pub joined_more : (rows : List DeltaRow) (row : DeltaRow) (old new : RowsSoFar) → AreJoined rows old → AreWithRow old row new → AreJoined (rows ++ row ∷ []) new
joined_more rows row old new are more = record {
  all = λ rest. joined_next row old new rest _ more (are.all (row ∷ rest)) ∙ ap (joined_from None) (sym (append_assoc rows (row ∷ []) rest));
}

-- and the end
pub joined_all : (rows : List DeltaRow) (changes : RowsSoFar) → AreJoined rows changes → changes.joined ++ row_ended changes.begun ≡ joined_from None rows
joined_all rows changes are = are.all [] ∙ ap (joined_from None) (append-nil rows)
