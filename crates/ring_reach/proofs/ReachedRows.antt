-- The ranges of the rows that are reached have the tokens that are.
use Rattle.std.proofs.Common.{◌≡◌, Bool, true, false, ◌&&◌, ◌||◌, ℤ, ◌≤ℤ◌, List, [], ◌∷◌, ◌++◌, map, refl, sym, ap, ◌∙◌}
use Rattle.std.specs.List.{AllByRecursion, flat_map, list_any}
use Rattle.std.specs.List.Sorted.{IsStrictlySortedBy}
use Rattle.std.specs.Ordering.{int_cmp}
use Rattle.std.proofs.Math.Bool.{or-false}
use Rattle.std.proofs.lemmas.List.Folds.{list_any-append}
use Rattle.cluster_terms.proofs.rows.RowLemmas.{row_with, upto_last}
use Rattle.cluster_terms.specs.Arc.{IsToken, in_arc}
use Rattle.cluster_terms.specs.Row.{is_within, last_token, rows_between}
use Rattle.cluster_terms.specs.declared.row.TokenRange.{TokenRange}
use Rattle.token_ring.specs.TokenRanges.{chosen_by, have_chosen}
use Rattle.ring_reach.specs.code.Moved.{HaveSameTokens}
use Rattle.ring_reach.specs.code.Windows.{any_have, window_bounds}
use Rattle.ring_reach.specs.declared.windows.Window.{Window}
use Rattle.ring_reach.proofs.TokenLemmas.{all_among}
use Rattle.ring_reach.proofs.WindowLemmas.{any_have-between}

-- a token is in a chosen row where the row that has it is chosen
chosen_rows : (f : TokenRange → Bool) (rows : List TokenRange) (t : ℤ) → have_chosen rows (map f rows) t ≡ list_any (λ (r : TokenRange). is_within t r && f r) rows
chosen_rows f [] t = refl
chosen_rows f (row ∷ rows) t = ap (λ b. (is_within t row && f row) || b) (chosen_rows f rows t)

none_chosen : (f : TokenRange → Bool) (rows : List TokenRange) (t : ℤ) → AllByRecursion (λ r. is_within t r ≡ false) rows → list_any (λ (r : TokenRange). is_within t r && f r) rows ≡ false
none_chosen f [] t out = refl
none_chosen f (row ∷ rows) t out = λ i. (out.0 i && f row) || none_chosen f rows t out.1 i

one_chosen : (f : TokenRange → Bool) (pre : List TokenRange) (row : TokenRange) (suf : List TokenRange) (t : ℤ)
    → AllByRecursion (λ r. is_within t r ≡ false) pre → is_within t row ≡ true → AllByRecursion (λ r. is_within t r ≡ false) suf
    → list_any (λ (r : TokenRange). is_within t r && f r) (pre ++ row ∷ suf) ≡ f row
one_chosen f pre row suf t before within after =
    list_any-append (λ (r : TokenRange). is_within t r && f r) pre (row ∷ suf)
    ∙ (λ i. none_chosen f pre t before i || ((within i && f row) || none_chosen f suf t after i))
    ∙ or-false (f row)

-- where a test changes nowhere between cuts, a token is in a chosen row exactly where it passes itself
chosen_tested : (test : ℤ → Bool) (cuts : List ℤ) → IsStrictlySortedBy int_cmp cuts → AllByRecursion IsToken cuts
    → ((x w : ℤ) → x ≤ℤ w → AllByRecursion (λ t. in_arc x w t ≡ false) cuts → test x ≡ test w)
    → (t : ℤ) → IsToken t → have_chosen (rows_between cuts) (map (λ (row : TokenRange). test (last_token row.right)) (rows_between cuts)) t ≡ test t
chosen_tested test cuts up tokens between t token =
    let r = row_with cuts up tokens t token in
    let w = last_token r.row.right in
    let f : TokenRange → Bool = λ row. test (last_token row.right) in
    chosen_rows f (rows_between cuts) t
    ∙ ap (list_any (λ (row : TokenRange). is_within t row && f row)) r.split
    ∙ one_chosen f r.pre r.row r.suf t r.before r.within r.after
    ∙ sym (between t w (upto_last t r.row r.within) r.clear)

-- the rows between the bounds of windows whose last tokens the windows have are the tokens that the windows have
pub rows_reached : (groups : List (List Window)) (cuts : List ℤ) → IsStrictlySortedBy int_cmp cuts → AllByRecursion IsToken cuts → HaveSameTokens cuts (flat_map window_bounds groups)
    → (t : ℤ) → IsToken t → have_chosen (rows_between cuts) (chosen_by (any_have groups) (rows_between cuts)) t ≡ any_have groups t
rows_reached groups cuts up tokens same t token =
    let between : (x w : ℤ) → x ≤ℤ w → AllByRecursion (λ u. in_arc x w u ≡ false) cuts → any_have groups x ≡ any_have groups w =
    λ x w le clear. any_have-between x w le groups (all_among (λ u. in_arc x w u ≡ false) (flat_map window_bounds groups) cuts (λ u h. same u ∙ h) clear) in
    chosen_tested (any_have groups) cuts up tokens between t token
