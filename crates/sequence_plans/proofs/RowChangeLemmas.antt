-- What a movement changes in a row.
use Rattle.std.proofs.Common.{◌≡◌, ℕ, Bool, true, false, if◌then◌else◌, ℤ, List, [], sym, ap, ◌∙◌}
use Rattle.cluster_terms.specs.Row.{last_token}
use Rattle.cluster_terms.specs.declared.row.TokenRange.{TokenRange}
use Rattle.placement_deltas.specs.code.JoinedRows.{change_row}
use Rattle.token_ring.specs.TokenRanges.{have_token}
use Rattle.sequence_plans.specs.code.RowChanges.{change_at, nodes_in_ranges}

module _ (ranges : List TokenRange) (one other : ℤ → List ℕ) (row : TokenRange) (last : ℤ) (is : last ≡ last_token row.right) where
  token_is : (b : Bool) → have_token ranges last ≡ b → b ≡ have_token ranges (last_token row.right)
  token_is b there = sym there ∙ ap (have_token ranges) is

  -- a row in the ranges, and one outside
  pub within_ranges : (b a : List ℕ) → have_token ranges last ≡ true → b ≡ one last → a ≡ other last → change_row row.right b a ≡ change_at ranges one other row
  within_ranges b a there b_is a_is = λ i. change_row row.right (nodes one b b_is i) (nodes other a a_is i)
    where
      nodes : (f : ℤ → List ℕ) (ns : List ℕ) → ns ≡ f last → ns ≡ nodes_in_ranges ranges f row
      nodes f ns e = e ∙ ap f is ∙ ap (λ (b : Bool). if b then f (last_token row.right) else []) (token_is true there)

  pub outside_ranges : have_token ranges last ≡ false → change_row row.right [] [] ≡ change_at ranges one other row
  outside_ranges beside = λ i. change_row row.right (nodes one i) (nodes other i)
    where
      nodes : (f : ℤ → List ℕ) → [] ≡ nodes_in_ranges ranges f row
      nodes f = ap (λ (b : Bool). if b then f (last_token row.right) else []) (token_is false beside)
