-- What a delta shows at a token, where the sets of the rows are those at their last tokens.
use Rattle.std.proofs.Common.{◌≡◌, ℕ, true, ℤ, List, [], ◌∷◌, ◌++◌, map, sym, ◌∙◌, subst}
use Rattle.std.specs.List.{AllByRecursion}
use Rattle.std.specs.List.Sorted.{IsStrictlySortedBy}
use Rattle.std.specs.Ordering.{int_cmp}
use Rattle.cluster_terms.proofs.rows.RowLemmas.{row_with}
use Rattle.cluster_terms.specs.Arc.{IsToken}
use Rattle.cluster_terms.specs.Row.{is_within, last_token, rows_between}
use Rattle.cluster_terms.specs.declared.row.TokenRange.{TokenRange}
use Rattle.placement_deltas.specs.Deltas.{ShowsChanges, change, delta_at}
use Rattle.placement_deltas.specs.declared.delta_row.DeltaRow.{DeltaRow}
use Rattle.token_ring.proofs.RangeLemmas.{all_at}

-- in each row, sets of nodes at tokens are the same at each token as at the last one
abbrev pub StandInRows : (ℤ → List ℕ) → List TokenRange → Type 0
StandInRows f rows = AllByRecursion (λ row. (x : ℤ) → IsToken x → is_within x row ≡ true → f x ≡ f (last_token row.right)) rows

-- the sets at the last tokens of rows
abbrev pub at_ends : (ℤ → List ℕ) → List TokenRange → List (List ℕ)
at_ends f rows = map (λ row. f (last_token row.right)) rows

-- what is shown in a row
shown_in : (f g : ℤ → List ℕ) (delta : List DeltaRow) (x : ℤ) (pre : List TokenRange) (row : TokenRange) (suf : List TokenRange) → is_within x row ≡ true
    → ShowsChanges (pre ++ row ∷ suf) (at_ends f (pre ++ row ∷ suf)) (at_ends g (pre ++ row ∷ suf)) delta
    → delta_at delta x ≡ change (f (last_token row.right)) (g (last_token row.right))
shown_in f g delta x [] row suf within shows = shows.0 x within
shown_in f g delta x (p ∷ pre) row suf within shows = shown_in f g delta x pre row suf within shows.1

-- a row's set is that at each of its tokens
stands_at : (f : ℤ → List ℕ) (x : ℤ) (pre : List TokenRange) (row : TokenRange) (suf : List TokenRange) → IsToken x → is_within x row ≡ true → StandInRows f (pre ++ row ∷ suf) → f x ≡ f (last_token row.right)
stands_at f x pre row suf token within stand =
    all_at (λ (r : TokenRange). (y : ℤ) → IsToken y → is_within y r ≡ true → f y ≡ f (last_token r.right)) pre row suf stand x token within

-- a delta shows the change at each token, where the set in each row is that at its last token
pub shown_at : (cuts : List ℤ) (before after : List (List ℕ)) (delta : List DeltaRow) (f g : ℤ → List ℕ) → IsStrictlySortedBy int_cmp cuts → AllByRecursion IsToken cuts
    → ShowsChanges (rows_between cuts) before after delta → before ≡ at_ends f (rows_between cuts) → after ≡ at_ends g (rows_between cuts)
    → StandInRows f (rows_between cuts) → StandInRows g (rows_between cuts)
    → (x : ℤ) → IsToken x → delta_at delta x ≡ change (f x) (g x)
shown_at cuts before after delta f g up tokens shows before_is after_is stand_f stand_g x token =
    let w = row_with cuts up tokens x token in
    let shown : ShowsChanges (w.pre ++ w.row ∷ w.suf) (at_ends f (w.pre ++ w.row ∷ w.suf)) (at_ends g (w.pre ++ w.row ∷ w.suf)) delta =
    subst (λ (rows : List TokenRange). ShowsChanges rows (at_ends f rows) (at_ends g rows) delta) w.split
    (subst (λ (sets : List (List ℕ) × List (List ℕ)). ShowsChanges (rows_between cuts) sets.0 sets.1 delta) (λ i. (before_is i, after_is i)) shows) in
    let same_f = stands_at f x w.pre w.row w.suf token w.within (subst (StandInRows f) w.split stand_f) in
    let same_g = stands_at g x w.pre w.row w.suf token w.within (subst (StandInRows g) w.split stand_g) in
    shown_in f g delta x w.pre w.row w.suf w.within shown ∙ (λ i. change (sym same_f i) (sym same_g i))
