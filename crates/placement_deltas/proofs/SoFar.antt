-- Rows that are joined one after the other in one list.
use Rattle.std.proofs.Common.{◌≡◌, ℕ, suc, zero, ◌+◌, ◌<◌, Bool, true, false, if◌then◌else◌, List, [], ◌∷◌, ◌++◌, length, set, get_or, slice_get, Option, Some, None, refl, sym, ap, ◌∙◌, arith}
use Rattle.std.proofs.lemmas.Bool.{true≢false}
use Rattle.std.proofs.lemmas.List.{append-nil, length-set}
use Rattle.std.proofs.lemmas.Option.{slice_get-get_or}
use Rattle.cluster_terms.specs.declared.token.RightEnd.{RightEnd}
use Rattle.cluster_terms.specs.declared.token.RightEnd.TheVariants.{Max}
use Rattle.placement_deltas.proofs.JoinedDeltas.{same_yes}
use Rattle.placement_deltas.specs.code.Changes.{AreWithRow, RowsSoFar, is_continued, so_far, with_end}
use Rattle.placement_deltas.specs.code.JoinedRows.{closed, row_ended}
use Rattle.placement_deltas.specs.declared.delta_row.DeltaRow.{DeltaRow}

-- ---- all rows but the last have ended

abbrev more : DeltaRow → RowsSoFar → RowsSoFar
more row left = record { joined = row ∷ left.joined; begun = left.begun }

first_ended : (row : DeltaRow) (rows : List DeltaRow) → 0 < length rows → so_far (row ∷ rows) ≡ more row (so_far rows)
first_ended row [] some = absurd (omega arith)
first_ended row (next ∷ rows) some = refl

all_ended : (rows : List DeltaRow) (row : DeltaRow) → so_far (rows ++ row ∷ []) ≡ record { joined = rows; begun = Some row }
all_ended [] row = refl
all_ended (first ∷ []) row = refl
all_ended (first ∷ next ∷ rows) row = ap (more first) (all_ended (next ∷ rows) row)

-- the last row stands at the end
pub last_at : (rows : List DeltaRow) (at : ℕ) → at + 1 ≡ length rows → slice_get rows at ≡ (so_far rows).begun
last_at [] at e = absurd (omega arith)
last_at (row ∷ []) zero e = refl
last_at (row ∷ []) (suc at) e = absurd (omega arith)
last_at (row ∷ next ∷ rows) zero e = absurd (omega arith)
last_at (row ∷ next ∷ rows) (suc at) e = last_at (next ∷ rows) at (omega arith)

last_set : (rows : List DeltaRow) (at : ℕ) (row : DeltaRow) → at + 1 ≡ length rows → so_far (set rows at row) ≡ record { joined = (so_far rows).joined; begun = Some row }
last_set [] at row e = absurd (omega arith)
last_set (first ∷ []) zero row e = refl
last_set (first ∷ []) (suc at) row e = absurd (omega arith)
last_set (first ∷ next ∷ rows) zero row e = absurd (omega arith)
last_set (first ∷ next ∷ rows) (suc at) row e =
    let long = length-set (next ∷ rows) at row in
    first_ended first (set (next ∷ rows) at row) (omega arith) ∙ ap (more first) (last_set (next ∷ rows) at row (omega arith))

-- and may get another end
pub last_ends : (rows : List DeltaRow) (at : ℕ) (last : DeltaRow) (right : RightEnd) → at + 1 ≡ length rows → last ≡ get_or rows at last → so_far (set rows at (record last { right = right })) ≡ with_end right (so_far rows)
last_ends rows at last right e is =
    last_set rows at (record last { right = right }) e
    ∙ ap (λ (begun : Option DeltaRow). with_end right (record { joined = (so_far rows).joined; begun = begun }))
    (ap Some is ∙ sym (slice_get-get_or rows at last (omega arith)) ∙ last_at rows at e)

-- ---- the rows are those that have ended, and the last one

abbrev begun_row : Option DeltaRow → List DeltaRow
begun_row None = []
begun_row (Some row) = row ∷ []

parts : (rows : List DeltaRow) → rows ≡ (so_far rows).joined ++ begun_row (so_far rows).begun
parts [] = refl
parts (row ∷ []) = refl
parts (row ∷ next ∷ rows) = ap (λ l. row ∷ l) (parts (next ∷ rows))

pub ring_ended : (rows new : List DeltaRow) → so_far new ≡ with_end Max (so_far rows) → new ≡ (so_far rows).joined ++ row_ended (so_far rows).begun
ring_ended rows new is =
    parts new ∙ ap (λ (s : RowsSoFar). s.joined ++ begun_row s.begun) is ∙ ap (λ l. (so_far rows).joined ++ l) (ends (so_far rows).begun)
  where
    ends : (begun : Option DeltaRow) → begun_row (with_end Max (record { joined = (so_far rows).joined; begun = begun })).begun ≡ row_ended begun
    ends None = refl
    ends (Some row) = refl

-- ---- one row more

closes : (begun : Option DeltaRow) (row : DeltaRow) → is_continued begun row ≡ false → closed begun row ≡ begun_row begun
closes None row other = refl
closes (Some last) row other = ap (λ (b : Bool). if b then [] else last ∷ []) other

pub row_more : (rows new : List DeltaRow) (row : DeltaRow) → is_continued (so_far rows).begun row ≡ false → new ≡ rows ++ row ∷ [] → AreWithRow (so_far rows) row (so_far new)
row_more rows new row other is =
    let all = ap so_far is ∙ all_ended rows row in
    record {
      joined = ap (λ (s : RowsSoFar). s.joined) all ∙ parts rows ∙ ap (λ l. (so_far rows).joined ++ l) (sym (closes (so_far rows).begun row other));
      begun = ap (λ (s : RowsSoFar). s.begun) all;
    }

continues : (begun : Option DeltaRow) (row : DeltaRow) → is_continued begun row ≡ true → closed begun row ≡ []
continues None row same = absurd (true≢false (sym same))
continues (Some last) row same = ap (λ (b : Bool). if b then [] else last ∷ []) same

ends_there : (begun : Option DeltaRow) (row : DeltaRow) → is_continued begun row ≡ true → (with_end row.right (record { joined = []; begun = begun })).begun ≡ Some row
ends_there None row same = absurd (true≢false (sym same))
ends_there (Some last) row same = let change = same_yes last row same in λ i. Some (record { right = row.right; gained = (change i).0; lost = (change i).1 })

pub row_continued : (rows new : List DeltaRow) (row : DeltaRow) → is_continued (so_far rows).begun row ≡ true → so_far new ≡ with_end row.right (so_far rows) → AreWithRow (so_far rows) row (so_far new)
row_continued rows new row same is = record {
  joined =
      ap (λ (s : RowsSoFar). s.joined) is ∙ sym (append-nil (so_far rows).joined) ∙ ap (λ l. (so_far rows).joined ++ l) (sym (continues (so_far rows).begun row same));
  begun = ap (λ (s : RowsSoFar). s.begun) is ∙ ends_there (so_far rows).begun row same;
}
