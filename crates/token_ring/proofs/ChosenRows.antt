-- Rows between cuts of which some are chosen, and the first row that two lists of ranges have in common.
use Rattle.std.proofs.Common.{◌≡◌, ℕ, zero, suc, ◌<◌, ◌≤◌, Bool, true, false, ◌&&◌, ◌||◌, if◌then◌else◌, ◌↔◌, ℤ, List, [], ◌∷◌, ◌++◌, length, map, take, get_or, Option, Some, None, option_map, find, IsNone, refl, sym, ap, ◌∙◌, subst, arith}
use Rattle.std.proofs.Math.Bool.{or-false}
use Rattle.std.specs.List.{AllByRecursion, list_any}
use Rattle.std.specs.List.Sorted.{IsStrictlySortedBy}
use Rattle.std.specs.Ordering.{int_cmp}
use Rattle.std.proofs.lemmas.Bool.{false≢true, true≢false}
use Rattle.std.proofs.lemmas.Bool.Decides.{Decides-int_eq}
use Rattle.std.proofs.lemmas.List.{take_all}
use Rattle.cluster_terms.proofs.lists.AscendingLemmas.{weaker}
use Rattle.cluster_terms.proofs.rows.RowLemmas.{IsRowWith, row_with, upto_last, rows_have_last}
use Rattle.cluster_terms.specs.Arc.{IsToken, greatest_token}
use Rattle.cluster_terms.specs.Row.{last_token, is_last, is_within, rows_from, rows_between}
use Rattle.cluster_terms.specs.declared.row.TokenRange.{TokenRange}
use Rattle.cluster_terms.specs.declared.token.RightEnd.{RightEnd}
use Rattle.cluster_terms.specs.declared.token.RightEnd.TheVariants.{At, Max}
use Rattle.token_ring.specs.TokenRanges.{have_token, either_has, AreCutOut, have_chosen, is_common, first_common_end}
use Rattle.token_ring.proofs.RangeLemmas.{all_at, same_tokens}

-- ---- chosen rows

-- rows that a test chooses
chosen_by : (f : TokenRange → Bool) (rows : List TokenRange) (t : ℤ) → have_chosen rows (map f rows) t ≡ list_any (λ r. is_within t r && f r) rows
chosen_by f [] t = refl
chosen_by f (row ∷ rows) t = ap (λ b. (is_within t row && f row) || b) (chosen_by f rows t)

none_chosen : (f : TokenRange → Bool) (rows : List TokenRange) (t : ℤ) → AllByRecursion (λ r. is_within t r ≡ false) rows → list_any (λ r. is_within t r && f r) rows ≡ false
none_chosen f [] t none = refl
none_chosen f (row ∷ rows) t none = (λ i. (none.0 i && f row) || list_any (λ r. is_within t r && f r) rows) ∙ none_chosen f rows t none.1

one_chosen : (f : TokenRange → Bool) (pre : List TokenRange) (row : TokenRange) (suf : List TokenRange) (t : ℤ) → AllByRecursion (λ r. is_within t r ≡ false) pre → is_within t row ≡ true → AllByRecursion (λ r. is_within t r ≡ false) suf
    → list_any (λ r. is_within t r && f r) (pre ++ row ∷ suf) ≡ f row
one_chosen f [] row suf t before within after =
    (λ i. (within i && f row) || none_chosen f suf t after i) ∙ or-false (f row)
one_chosen f (p ∷ pre) row suf t before within after =
    (λ i. (before.0 i && f p) || list_any (λ r. is_within t r && f r) (pre ++ row ∷ suf)) ∙ one_chosen f pre row suf t before.1 within after

-- where a test chooses rows, a token is in a chosen one exactly if its own row is chosen
pub have_chosen_row : (cuts : List ℤ) (t : ℤ) (f : TokenRange → Bool) (w : IsRowWith cuts t) → have_chosen (rows_between cuts) (map f (rows_between cuts)) t ≡ f w.row
have_chosen_row cuts t f w =
    chosen_by f (rows_between cuts) t ∙ ap (list_any (λ r. is_within t r && f r)) w.split ∙ one_chosen f w.pre w.row w.suf t w.before w.within w.after

-- a list whose bounds are cuts has a token exactly if it has the last token of the token's row
pub have_row : (cuts : List ℤ) (ranges : List TokenRange) (t : ℤ) (w : IsRowWith cuts t) → AreCutOut cuts ranges → have_token ranges t ≡ have_token ranges (last_token w.row.right)
have_row cuts ranges t w out = same_tokens cuts t (last_token w.row.right) ranges (upto_last t w.row w.within) w.token w.clear out

-- the rows whose last tokens are in one of two lists have the tokens of both
pub have_either : (cuts : List ℤ) (one other : List TokenRange) → IsStrictlySortedBy int_cmp cuts → AllByRecursion IsToken cuts → AreCutOut cuts one → AreCutOut cuts other
    → (t : ℤ) → IsToken t → have_chosen (rows_between cuts) (map (λ row. either_has one other (last_token row.right)) (rows_between cuts)) t ≡ either_has one other t
have_either cuts one other up tokens one_out other_out t token =
    let w = row_with cuts up tokens t token in
    have_chosen_row cuts t (λ row. either_has one other (last_token row.right)) w
    ∙ sym (λ i. have_row cuts one t w one_out i || have_row cuts other t w other_out i)

-- ---- the first row in common

module _ (one other : List TokenRange) where
  abbrev both : ℤ → Bool
  both t = have_token one t && have_token other t

  -- the right end of the first row in common from a left end on
  abbrev first_from : Option ℤ → List ℤ → Option RightEnd
  first_from left cuts = option_map (λ row. row.right) (find (is_common one other) (rows_from left cuts))

  -- the first cut in both lists ends the first row in common
  pub first_at : (left : Option ℤ) (cuts : List ℤ) (k : ℕ) (cut : ℤ) → AllByRecursion (λ t. both t ≡ false) (take k cuts) → k < length cuts → cut ≡ get_or cuts k cut → both cut ≡ true
      → first_from left cuts ≡ Some (At cut)
  first_at left [] k cut none within at common = absurd (omega arith)
  first_at left (c ∷ cuts) zero cut none within at common =
      let here : both c ≡ true = ap both (sym at) ∙ common in
      ap (λ b. option_map (λ (r : TokenRange). r.right) (if b then Some (record { left = left; right = At c }) else find (is_common one other) (rows_from (Some c) cuts))) here
      ∙ ap (λ t. Some (At t)) (sym at)
  first_at left (c ∷ cuts) (suc k) cut none within at common =
      ap (λ b. option_map (λ (r : TokenRange). r.right) (if b then Some (record { left = left; right = At c }) else find (is_common one other) (rows_from (Some c) cuts))) none.0
      ∙ first_at (Some c) cuts k cut none.1 (omega arith) at common

  -- a left end is not in both
  abbrev Missed : Option ℤ → Type 0
  Missed None = Unit
  Missed (Some left) = both left ≡ false

  missed_last : (left : Option ℤ) → Missed left → is_last left ≡ true → both greatest_token ≡ false
  missed_last None missed last = absurd (false≢true last)
  missed_last (Some left) missed last = ap both (sym ((Decides-int_eq left greatest_token).0 last)) ∙ missed

  -- where no cut is in both lists, the last row is left
  first_past : (left : Option ℤ) (cuts : List ℤ) → Missed left → AllByRecursion (λ t. both t ≡ false) cuts → first_from left cuts ≡ (if both greatest_token then Some Max else None)
  first_past left [] missed none = by (is_last left) refl
    where
      by : (b : Bool) → is_last left ≡ b
          → option_map (λ (r : TokenRange). r.right) (find (is_common one other) (if b then [] else (record { left = left; right = Max }) ∷ [])) ≡ (if both greatest_token then Some Max else None)
      by true last = ap (λ b. if b then Some Max else None) (sym (missed_last left missed last))
      by false last = tested (both greatest_token)
        where
          tested : (b : Bool) → option_map (λ (r : TokenRange). r.right) (if b then Some (record { left = left; right = Max }) else None) ≡ (if b then Some Max else None)
          tested true = refl
          tested false = refl
  first_past left (c ∷ cuts) missed none =
      ap (λ b. option_map (λ (r : TokenRange). r.right) (if b then Some (record { left = left; right = At c }) else find (is_common one other) (rows_from (Some c) cuts))) none.0
      ∙ first_past (Some c) cuts none.0 none.1

  pub first_found : (cuts : List ℤ) (k : ℕ) (cut : ℤ) → AllByRecursion (λ t. both t ≡ false) (take k cuts) → k < length cuts → cut ≡ get_or cuts k cut → both cut ≡ true
      → Some (At cut) ≡ first_common_end one other cuts
  first_found cuts k cut none within at common = sym (first_at None cuts k cut none within at common)

  pub first_last : (cuts : List ℤ) (n : ℕ) (b : Bool) → AllByRecursion (λ t. both t ≡ false) (take n cuts) → length cuts ≤ n → b ≡ both greatest_token
      → (if b then Some Max else None) ≡ first_common_end one other cuts
  first_last cuts n b none over is =
      ap (λ b. if b then Some Max else None) is
      ∙ sym (first_past None cuts tt (subst (AllByRecursion (λ t. both t ≡ false)) (take_all n cuts over) none))

  -- ---- no row in common

  none_found : (rows : List TokenRange) → IsNone (option_map (λ row. row.right) (find (is_common one other) rows)) → AllByRecursion (λ r. is_common one other r ≡ false) rows
  none_found [] none = tt
  none_found (row ∷ rows) none = by (is_common one other row) refl none (none_found rows)
    where
      by : (b : Bool) → is_common one other row ≡ b → IsNone (option_map (λ (r : TokenRange). r.right) (if b then Some row else find (is_common one other) rows))
          → (IsNone (option_map (λ row. row.right) (find (is_common one other) rows)) → AllByRecursion (λ r. is_common one other r ≡ false) rows)
          → (is_common one other row ≡ false) × AllByRecursion (λ r. is_common one other r ≡ false) rows
      by true e none rest = absurd (true≢false none)
      by false e none rest = (e, rest none)

  found_none : (rows : List TokenRange) → AllByRecursion (λ r. is_common one other r ≡ false) rows → IsNone (option_map (λ row. row.right) (find (is_common one other) rows))
  found_none [] none = refl
  found_none (row ∷ rows) none = subst (λ b. IsNone (option_map (λ (r : TokenRange). r.right) (if b then Some row else find (is_common one other) rows))) (sym none.0) (found_none rows none.1)

  -- there is no row in common exactly where no token is in both lists
  pub none_common : (cuts : List ℤ) → IsStrictlySortedBy int_cmp cuts → AllByRecursion IsToken cuts → AreCutOut cuts one → AreCutOut cuts other
      → (end : Option RightEnd) → end ≡ first_common_end one other cuts → IsNone end ↔ ((t : ℤ) → IsToken t → both t ≡ false)
  none_common cuts up tokens one_out other_out end is = (on, back)
    where
      on : IsNone end → (t : ℤ) → IsToken t → both t ≡ false
      on none t token =
          let w = row_with cuts up tokens t token in
          let rows = none_found (rows_between cuts) (subst IsNone is none) in
          (λ i. have_row cuts one t w one_out i && have_row cuts other t w other_out i)
          ∙ all_at (λ r. is_common one other r ≡ false) w.pre w.row w.suf (subst (AllByRecursion (λ r. is_common one other r ≡ false)) w.split rows)

      back : ((t : ℤ) → IsToken t → both t ≡ false) → IsNone end
      back none =
          subst IsNone (sym is) (found_none (rows_between cuts)
          (weaker (λ r. (is_within (last_token r.right) r ≡ true) × IsToken (last_token r.right)) (λ r. is_common one other r ≡ false) (λ r has. none (last_token r.right) has.1) (rows_between cuts) (rows_have_last cuts up tokens)))
